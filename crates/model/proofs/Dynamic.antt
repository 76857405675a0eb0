-- A span's dynamic factor is its curve rounded up; it never rises as the span grows, and is from 1000 to 1300 thousandths. Kinds 1 to 3 are as document 01 has them.
use Rattle.std.specs.Prelude.{if◌then◌else◌}
use mathlib.Core.Path.{◌≡◌, refl, ◌∙◌, ap}
use mathlib.Core.Bool.{Bool, true, false}
use mathlib.Core.Logic.{◌↔◌}
use mathlib.Core.List.{List, [], ◌∷◌, map}
use Prim.Native.Nat.{ℕ, ◌+◌, ◌-◌, ◌*◌, ◌/◌, ◌≤◌, ◌<◌, max}
use native.Mathlib.Nat.{add-div_right, add-mul-div_right, div-lt_iff_lt-mul, mul-le-mul, le_refl}
use native.Mathlib.Omega.{arith}
use lib.IntN.{ℤ, pos}
use lib.Dec.{eqb, leb}
use borrow.Author.Tests.{le-leb, lt-leb, leb-true, leb-false, eqb-false, ne_eqb}
use Rattle.exact.specs.Choice.{between}
use Rattle.exact.specs.Parts.{up}
use Rattle.exact.specs.Rounding.{floor_div, ceil_div}
use Rattle.exact.specs.declared.Question.{Question}
use Rattle.exact.specs.declared.Question.TheVariants.{Greatest, Least}
use Rattle.exact.proofs.Bridge.{by_test}
use Rattle.words.specs.Words.{word_at, count_at}
use Rattle.model.specs.Format.{header_of, is, dynamic_fits}
use Rattle.model.specs.Dynamic.{span_factor, dynamic_factor}
use Rattle.model.specs.Decode.{dynamic_value, decode}
use Rattle.model.proofs.Counts.{between_count, past_three}

-- 150000 / d rounded up, by one division of natural numbers
whole : (d : ℕ) → 0 < d → up (ceil_div (pos 150000) d) ≡ (150000 + d - 1) / d
unfolding floor_div ceil_div
whole d p = let e : 150000 + d - 1 ≡ 149999 + d = omega arith in rw e (omega (arith, add-div_right 149999 {k = d} p))

module _ (l : ℕ) where
  -- 1300 to 120 dm
  pub to_120 : l ≤ 120 → span_factor l ≡ 1300
  unfolding span_factor
  to_120 h = rw (le-leb l 120 h) refl

  -- beyond, in whole numbers
  pub beyond_120 : 120 < l → span_factor l ≡ 1000 + (150000 + (l + 380) - 1) / (l + 380)
  unfolding span_factor
  beyond_120 h = rw (lt-leb l 120 h) (ap (λ n. 1000 + n) (whole (l + 380) (omega arith)))

  -- the least number of thousandths on or above 1 + 15/(L + 38), which is L + 38 + 15 over L + 38; L is l tenths of a metre, so both are taken ten times
  pub rounds_up : 120 < l → (n : ℕ) → (span_factor l ≤ n) ↔ (1000 * (l + 10 * 38 + 10 * 15) ≤ n * (l + 10 * 38))
  rounds_up h n =
      let d = l + 380 in
      let p : 0 < d = omega arith in
      let e = beyond_120 h in
      let f = add-mul-div_right (150000 + d - 1) 1000 {z = d} p in
      let law = div-lt_iff_lt-mul {k = d} {x = 150000 + d - 1 + 1000 * d} {y = n + 1} p in
      (λ s. let c = law.0 (omega arith) in omega arith, λ s. let c = law.1 (omega arith) in omega arith)

  -- from 1000 to 1300
  pub span_range : (1000 ≤ span_factor l) × (span_factor l ≤ 1300)
  span_range =
      by_test (leb l 120) (λ _. (1000 ≤ span_factor l) × (span_factor l ≤ 1300))
      (λ t. let e = to_120 (leb-true l 120 t) in omega arith)
      (λ f. let h = leb-false l 120 f in let e = beyond_120 h in (omega arith, (rounds_up h 1300).1 (omega arith)))

-- a span that is longer by j has no greater factor
pub falls : (l j : ℕ) → span_factor (l + j) ≤ span_factor l
falls l j =
    by_test (leb l 120) (λ _. span_factor (l + j) ≤ span_factor l)
    (λ t. let e = to_120 l (leb-true l 120 t) in let r = span_range (l + j) in omega arith)
    (λ f.
    let h = leb-false l 120 f in
    let n = span_factor l in
    let on = (rounds_up l h n).0 (le_refl n) in
    let more : 1000 * j ≤ n * j = mul-le-mul (span_range l).0 (le_refl j) in
    (rounds_up (l + j) (omega arith) n).1 (omega arith))

-- the two branches meet at 120 dm
pub branches_meet : 1000 + up (ceil_div (pos 150000) (120 + 380)) ≡ span_factor 120
unfolding span_factor floor_div ceil_div
branches_meet = refl

-- the shortest and the longest span, and where the curve begins
pub span_figures : map span_factor (1 ∷ 119 ∷ 120 ∷ 121 ∷ 122 ∷ 2000 ∷ []) ≡ (1300 ∷ 1300 ∷ 1300 ∷ 1300 ∷ 1299 ∷ 1064 ∷ [])
unfolding span_factor floor_div ceil_div
span_figures = refl

-- so 1300 to 121 dm
pub to_121 : (l : ℕ) → l ≤ 121 → span_factor l ≡ 1300
unfolding span_factor floor_div ceil_div
to_121 l h = by_test (leb l 120) (λ _. span_factor l ≡ 1300) (λ t. to_120 l (leb-true l 120 t)) (λ f. let p = leb-false l 120 f in let e : l ≡ 121 = omega arith in rw e refl)

-- and the curve from 120 dm on
pub from_120 : (l : ℕ) → 120 ≤ l → span_factor l ≡ 1000 + (150000 + (l + 380) - 1) / (l + 380)
unfolding span_factor
from_120 l h = by_test (leb l 120) (λ _. span_factor l ≡ 1000 + (150000 + (l + 380) - 1) / (l + 380)) (λ t. let p = leb-true l 120 t in let e : l ≡ 120 = omega arith in rw e refl) (λ f. beyond_120 l (leb-false l 120 f))

-- ---- kinds 1 to 3, in every edition
-- where one of three tests holds, what is left for none does not matter
last_of_three : {A : Type 0} (x y z w : A) (s t u : Bool) → (s ≡ false → t ≡ false → ¬ (u ≡ false)) → (if s then x else (if t then y else (if u then z else w))) ≡ (if s then x else (if t then y else z))
last_of_three x y z w true t u h = refl
last_of_three x y z w false true u h = refl
last_of_three x y z w false false true h = refl
last_of_three x y z w false false false h = absurd (h refl refl refl)

-- word 6 is tested as document 01 has it
pub value_to_kind_3 : (kind value : ℤ) → between (pos 1) (pos 3) kind ≡ true → dynamic_fits kind value ≡ (if is 1 kind then between (pos 1000) (pos 1300) value else (if is 2 kind then is 0 value else between (pos 0) (pos 5000) value))
value_to_kind_3 kind value t =
    let c = between_count 1 3 kind t in
    last_of_three _ _ _ _ (is 1 kind) (is 2 kind) (is 3 kind) (λ f g h. omega (arith, past_three c f g h, c.most))

-- and both questions have the one factor of document 01
pub factor_to_kind_3 : (b : List ℕ) → between (pos 1) (pos 3) (word_at b 5) ≡ true → (q : Question) → let kind = count_at b 5 in let value = count_at b 6 in (decode b).dynamic q ≡ (if eqb kind 1 then value else (if eqb kind 2 then 1000 else max 1000 (1300 - 3 * value)))
unfolding decode dynamic_factor
factor_to_kind_3 b t q =
    let c = between_count 1 3 (word_at b 5) t in
    let kind = count_at b 5 in
    ap (dynamic_factor kind) (one_value (omega (arith, c.most)) q)
    ∙ last_of_three _ _ _ _ (eqb kind 1) (eqb kind 2) (eqb kind 3)
    (λ f g h. let one = eqb-false kind 1 f in let two = eqb-false kind 2 g in let three = eqb-false kind 3 h in omega (arith, c.least, c.most))
  where
    one_value : count_at b 5 < 4 → (q : Question) → dynamic_value b (header_of b) q ≡ count_at b 6
    one_value l Greatest = refl
    one_value l Least = let other : ¬ (count_at b 5 ≡ 4) = omega arith in rw (ne_eqb (count_at b 5) 4 other) refl
