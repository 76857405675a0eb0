-- Factors of additional lanes: on few lanes by computation, an assignment by its levels, and that none beats overload's best.
use Rattle.std.specs.Prelude.{if◌then◌else◌}
use mathlib.Core.Path.{◌≡◌, refl, sym, ◌∙◌, ap, ap₂, subst}
use mathlib.Core.Bool.{Bool, true, false, not, ◌&&◌}
use mathlib.Core.List.{List, [], ◌∷◌, map}
use Prim.Native.Nat.{ℕ, zero, suc, ◌+◌, ◌-◌, ◌≤◌, ◌<◌}
use native.Mathlib.Decide.{dec_le}
use native.Mathlib.Omega.{arith}
use lib.IntN.{ℤ, pos, negsuc, ◌+ℤ◌, ◌*ℤ◌}
use lib.ListN.{get_or}
use lib.Dec.{ltb, eqb}
use borrow.Author.Tests.{ltb-true, ltb-false, lt-ltb, le-ltb, eqb-true, eqb-false, eq-eqb, ne_eqb}
use Rattle.exact.specs.Choice.{minℤ, maxℤ}
use Rattle.exact.specs.Questions.{NoBetter, extreme_over}
use Rattle.exact.specs.Ranges.{count_to, list_of}
use Rattle.exact.specs.declared.Question.{Question}
use Rattle.exact.specs.declared.Question.TheVariants.{Greatest, Least}
use Rattle.exact.proofs.Bridge.{by_test}
use Rattle.exact.proofs.Choices.{all_true, all_intro, all_cong, over_bounds}
use Rattle.exact.proofs.Counting.{one, and_intro, count_all, count_but, count_some, count_pos}
use Rattle.exact.proofs.Exact.{◌⊗◌, lit, ◌≐◌, solve}
use Rattle.exact.proofs.Extremes.{no_better_trans, extreme_bounds}
use Rattle.exact.proofs.Ranges.{sum_cong, count_cong, count_none}
use Rattle.exact.proofs.Weights.{count_part, count_false}
use Rattle.model.specs.Lanes.{twentieths, additional}
use Rattle.model.proofs.Lanes.{twentieths_range, twentieths_falls}
use Rattle.model.specs.Traffic.{additional_lanes, assigned, overload_sum, factor_choice, beside_sum, best_overload}

-- ---- by computation
-- lane i's value of a list
abbrev value_of : List ℤ → ℕ → ℤ
value_of values i = get_or values i (pos 0)

-- the factors of nine additional lanes
additional_lanes_lem : list_of 9 additional ≡ 20 ∷ 18 ∷ 16 ∷ 14 ∷ 12 ∷ 11 ∷ 11 ∷ 11 ∷ 11 ∷ []
unfolding twentieths
additional_lanes_lem = refl

-- these factors of five lanes are an assignment, and those are none: 20 twice, 16 for the second, 18 for the only one, one above 20, one between
assignments : map (λ (factors : List ℕ). assigned 5 (λ i. get_or factors i 0)) ((14 ∷ 20 ∷ 0 ∷ 16 ∷ 18 ∷ []) ∷ (0 ∷ 18 ∷ 20 ∷ 0 ∷ 0 ∷ []) ∷ (0 ∷ 0 ∷ 0 ∷ 0 ∷ 0 ∷ []) ∷ []) ≡ true ∷ true ∷ true ∷ []
unfolding assigned twentieths
assignments = refl

no_assignments : map (λ (factors : List ℕ). assigned 5 (λ i. get_or factors i 0))
    ((20 ∷ 20 ∷ 0 ∷ 0 ∷ 0 ∷ []) ∷ (20 ∷ 16 ∷ 0 ∷ 0 ∷ 0 ∷ []) ∷ (18 ∷ 0 ∷ 0 ∷ 0 ∷ 0 ∷ []) ∷ (25 ∷ 0 ∷ 0 ∷ 0 ∷ 0 ∷ []) ∷ (20 ∷ 17 ∷ 0 ∷ 0 ∷ 0 ∷ []) ∷ []) ≡ false ∷ false ∷ false ∷ false ∷ false ∷ []
unfolding assigned twentieths
no_assignments = refl

-- given each lane's bests: HO in the first lane, the second at 20
two_lanes : best_overload Greatest 2 (value_of (pos 3 ∷ pos 5 ∷ [])) (value_of (pos 5 ∷ pos 6 ∷ [])) ≡ pos 200
unfolding best_overload beside_sum assigned overload_sum twentieths maxℤ
two_lanes = refl

-- HO in the second lane; the third at 20, the first at 18
three_lanes : best_overload Greatest 3 (value_of (pos 3 ∷ pos 5 ∷ pos 4 ∷ [])) (value_of (pos 4 ∷ pos 9 ∷ pos 5 ∷ [])) ≡ pos 314
unfolding best_overload beside_sum assigned overload_sum twentieths maxℤ
three_lanes = refl

-- the same of the least
three_least : best_overload Least 3 (value_of (negsuc 2 ∷ negsuc 4 ∷ negsuc 3 ∷ [])) (value_of (negsuc 3 ∷ negsuc 8 ∷ negsuc 4 ∷ [])) ≡ negsuc 313
unfolding best_overload beside_sum assigned overload_sum twentieths minℤ
three_least = refl

-- ---- the factors
pub additional_range : (m : ℕ) → (0 < additional m) × (additional m ≤ 20)
additional_range m = twentieths_range (suc m)

-- they fall
pub additional_falls : (j m : ℕ) → j ≤ m → additional m ≤ additional j
additional_falls j m h = twentieths_falls (suc j) (suc m) (omega arith)

-- ---- levels
-- more than t: just one more, or more than that
count_split : (n : ℕ) (f : ℕ → ℕ) (t : ℕ) → count_to n (λ i. ltb t (f i)) ≡ count_to n (λ i. eqb (f i) (suc t)) + count_to n (λ i. ltb (suc t) (f i))
count_split zero f t = refl
count_split (suc n) f t = let a = count_split n f t in let b = each (f n) in omega arith
  where
    each : (x : ℕ) → one (ltb t x) ≡ one (eqb x (suc t)) + one (ltb (suc t) x)
    each x =
        by_test (ltb (suc t) x) (λ b. one (ltb t x) ≡ one (eqb x (suc t)) + one b)
        (λ e. let h = ltb-true (suc t) x e in rw (lt-ltb t x (omega arith), ne_eqb x (suc t) (λ s. omega arith)) refl)
        (λ e. let h = ltb-false (suc t) x e in by_test (eqb x (suc t)) (λ b. one (ltb t x) ≡ one b + 0)
        (λ s. let k = eqb-true x (suc t) s in rw (lt-ltb t x (omega arith)) refl)
        (λ s. let k = eqb-false x (suc t) s in rw (le-ltb t x (omega arith)) refl))

-- only the lanes' factors count
pub assigned_cong : (n : ℕ) (f g : ℕ → ℕ) → ((i : ℕ) → i < n → f i ≡ g i) → assigned n f ≡ assigned n g
unfolding assigned
assigned_cong n f g e =
    all_cong 20 _ _ (λ x. ap₂ eqb (count_cong n _ _ (λ i l. ap (λ (y : ℕ). eqb y (suc x)) (e i l)))
    (ap (λ (k : ℕ). count_to k (λ m. eqb (additional m) (suc x))) (count_cong n _ _ (λ i l. ap (ltb 0) (e i l)))))

-- an assignment, where each factor stands as often as among those of that many additional lanes
pub assigned_intro : (n : ℕ) (f : ℕ → ℕ) → ((x : ℕ) → x < 20 → count_to n (λ i. eqb (f i) (suc x)) ≡ count_to (additional_lanes n f) (λ m. eqb (additional m) (suc x))) → assigned n f ≡ true
unfolding assigned
assigned_intro n f h = all_intro 20 _ (λ x l. eq-eqb _ _ (h x l))

-- no lane is additional
pub assigned_none : (n : ℕ) (f : ℕ → ℕ) → ((i : ℕ) → i < n → f i ≡ 0) → assigned n f ≡ true
assigned_none n f none =
    assigned_intro n f (λ x l.
    count_cong n _ (λ i. false) (λ i h. ne_eqb (f i) (suc x) (λ e. let z = none i h in omega arith)) ∙ count_false n
    ∙ sym (ap (λ (k : ℕ). count_to k (λ m. eqb (additional m) (suc x))) (count_cong n _ (λ i. false) (λ i h. le-ltb 0 (f i) (let z = none i h in omega arith)) ∙ count_false n)))

module _ (n : ℕ) (f : ℕ → ℕ) (a : assigned n f ≡ true) where
  -- each factor as often as the additional lanes have it
  assigned_count : (x : ℕ) → x < 20 → count_to n (λ i. eqb (f i) (suc x)) ≡ count_to (additional_lanes n f) (λ m. eqb (additional m) (suc x))
  unfolding assigned
  assigned_count x h = eqb-true _ _ (all_true 20 (λ x. eqb (count_to n (λ i. eqb (f i) (suc x))) (count_to (additional_lanes n f) (λ m. eqb (additional m) (suc x)))) a x h)

  -- as many lanes as additional ones are above each level
  pub assigned_level : (t : ℕ) → t ≤ 20 → count_to n (λ i. ltb t (f i)) ≡ count_to (additional_lanes n f) (λ m. ltb t (additional m))
  assigned_level zero h = sym (count_all (additional_lanes n f) (λ m. ltb 0 (additional m)) (λ m l. lt-ltb 0 _ (additional_range m).0))
  assigned_level (suc t) h =
      let x = assigned_level t (omega arith) in
      let y = count_split n f t in
      let z = count_split (additional_lanes n f) additional t in
      let w = assigned_count t (omega arith) in
      omega arith

  -- so no factor is above 20
  pub assigned_top : (i : ℕ) → i < n → f i ≤ 20
  assigned_top i l =
      ltb-false 20 (f i) (count_none n (λ i. ltb 20 (f i)) (assigned_level 20 (omega arith) ∙ no_more (additional_lanes n f)) i l)
    where
      no_more : (k : ℕ) → count_to k (λ m. ltb 20 (additional m)) ≡ 0
      no_more zero = refl
      no_more (suc k) = rw (le-ltb 20 (additional k) (additional_range k).1) (let e = no_more k in omega arith)

  -- a lane that has one has that of the first additional lane, or of the second ..
  assigned_one : (i : ℕ) → i < n → 0 < f i → (m : ℕ) × (m < additional_lanes n f) × (additional m ≡ f i)
  assigned_one i h some =
      let top = assigned_top i h in
      let e : suc (f i - 1) ≡ f i = omega arith in
      let is : 0 < count_to n (λ k. eqb (f k) (suc (f i - 1))) = count_pos n _ i h (eq-eqb (f i) (suc (f i - 1)) (sym e)) in
      let c = assigned_count (f i - 1) (omega arith) in
      let r = count_some (additional_lanes n f) (λ m. eqb (additional m) (suc (f i - 1))) (omega arith) in
      (r.0, r.1, eqb-true _ _ r.2 ∙ e)

  -- beside lane o there are at most as many as the other lanes
  pub assigned_number : (o : ℕ) → f o ≡ 0 → additional_lanes n f ≤ count_to n (λ k. not (eqb k o))
  assigned_number o none = count_part n (λ i. ltb 0 (f i)) (λ k. not (eqb k o)) (λ k l e. ap not (ne_eqb k o (λ s. zero_not (ap f s ∙ none) (ltb-true 0 (f k) e))))
    where
      zero_not : {x : ℕ} → x ≡ 0 → 0 < x → ⊥
      zero_not e h = omega arith

-- ---- sums
-- only lanes that have a factor count
pub factored : (f : ℕ) (x : ℤ) (t : Bool) → ltb 0 f ≡ t → pos f *ℤ (if t then x else pos 0) ≡ pos f *ℤ x
factored f x true e = refl
factored f x false e =
    let h = ltb-false 0 f e in
    let z : f ≡ 0 = omega arith in
    ap (λ (k : ℕ). pos k *ℤ pos 0) z ∙ solve 1 (λ x. lit 0 ⊗ lit 0 ≐ lit 0 ⊗ x) tt x ∙ sym (ap (λ (k : ℕ). pos k *ℤ x) z)

pub overload_cong : (n : ℕ) (hn hn' : ℕ → ℤ) {ho ho' : ℤ} (f g : ℕ → ℕ) → ho ≡ ho' → ((i : ℕ) → i < n → pos (f i) *ℤ hn i ≡ pos (g i) *ℤ hn' i) → overload_sum n hn ho f ≡ overload_sum n hn' ho' g
unfolding overload_sum
overload_cong n hn hn' f g e each = ap₂ (λ (x y : ℤ). pos 20 *ℤ x +ℤ y) e (sum_cong n _ _ each)

-- ---- overload's best
module _ (n : ℕ) (hn ho : ℕ → ℤ) (o : ℕ) (below : o < n) where
  -- only the lanes' factors count
  pub beside_cong : (f g : ℕ → ℕ) → ((i : ℕ) → i < n → f i ≡ g i) → beside_sum n hn ho o f ≡ beside_sum n hn ho o g
  unfolding beside_sum
  beside_cong f g e =
      ap₂ (λ (t : Bool) (s : ℤ). if t then s else pos 20 *ℤ ho o) (ap₂ (λ (x : ℕ) (t : Bool). eqb x 0 && t) (e o below) (assigned_cong n f g e))
      (overload_cong n hn hn f g refl (λ i l. ap (λ (x : ℕ). pos x *ℤ hn i) (e i l)))

  -- an assignment's sum
  pub beside_assigned : (f : ℕ → ℕ) → f o ≡ 0 → assigned n f ≡ true → beside_sum n hn ho o f ≡ overload_sum n hn (ho o) f
  unfolding beside_sum
  beside_assigned f none a = ap (λ (t : Bool). if t then overload_sum n hn (ho o) f else pos 20 *ℤ ho o) (and_intro _ _ (eq-eqb (f o) 0 none) a)

  module _ (f : ℕ → ℕ) (none : f o ≡ 0) (a : assigned n f ≡ true) where
    -- each lane's factor is one that it can take
    chosen : (i : ℕ) → (c : ℕ) × (c ≤ n - 1) × (i < n → factor_choice c ≡ f i)
    chosen i = elim (dec_le n i) [
      | yes l ↦ (0, omega arith, λ h. absurd (omega arith))
      | no l ↦ elim (dec_le (f i) 0) [
        | yes z ↦ (0, omega arith, λ h. omega arith)
        | no z ↦
            let r = assigned_one n f a i (omega arith) (omega arith) in
            let few = assigned_number n f a o none in
            let all = count_but n o below in
            let m = r.1 in
            (suc r.0, omega arith, λ h. r.2)
      ]
    ]

    beside_unbeaten : (q : Question) → NoBetter q (overload_sum n hn (ho o) f) (extreme_over q (n - 1) n (λ c. beside_sum n hn ho o (λ i. factor_choice (c i))))
    beside_unbeaten q =
        subst (λ (z : ℤ). NoBetter q z (extreme_over q (n - 1) n (λ c. beside_sum n hn ho o (λ i. factor_choice (c i)))))
        (beside_cong (λ i. factor_choice (chosen i).0) f (λ i h. (chosen i).2 h) ∙ beside_assigned f none a)
        (over_bounds q (n - 1) n (λ c. beside_sum n hn ho o (λ i. factor_choice (c i))) (λ c d e. beside_cong _ _ (λ i l. ap factor_choice (e i l))) (λ i. (chosen i).0) (λ i h. (chosen i).1))

-- no HO lane and assignment to other lanes beat it
pub overload_unbeaten : (q : Question) (n : ℕ) (hn ho : ℕ → ℤ) (o : ℕ) (f : ℕ → ℕ) → o < n → f o ≡ 0 → assigned n f ≡ true → NoBetter q (overload_sum n hn (ho o) f) (best_overload q n hn ho)
unfolding best_overload
overload_unbeaten q n hn ho o f below none a =
    no_better_trans q _ _ _ (beside_unbeaten n hn ho o below f none a q) (extreme_bounds q (n - 1) (λ o. extreme_over q (n - 1) n (λ c. beside_sum n hn ho o (λ i. factor_choice (c i)))) o (omega arith))
