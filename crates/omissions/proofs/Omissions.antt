-- A chain's best value term by term, and what it leaves out as a number's bits.
use Rattle.std.specs.Prelude.{if◌then◌else◌}
use mathlib.Core.Path.{◌≡◌, refl, sym, ◌∙◌, ap, ap₂, subst}
use mathlib.Core.Bool.{Bool, true, false, ◌&&◌, ◌||◌, true≢false, false≢true, or-true, or-false, and-eq-true_iff}
use mathlib.Core.List.{List, [], ◌∷◌}
use Prim.Native.Nat.{ℕ, zero, suc, ◌+◌, ◌-◌, ◌*◌, ◌/◌, ◌%◌, ◌^◌, ◌≤◌, ◌<◌, max}
use native.Mathlib.Nat.{pow-suc, div_self, div-eq_of_lt, mul-mod_left, mul-add-mod_self_right, mod-lt}
use native.Mathlib.Decide.{dec_le, ℕ_discrete}
use native.Mathlib.Omega.{arith}
use lib.Bits.{bit_or, or_step, or_shr}
use lib.Dec.{eqb}
use lib.IntN.{ℤ, pos, ◌+ℤ◌}
use lib.ListN.{length}
use lib.Pow.{pow_pos, pow-lt, pow-add, shl-shr}
use Rattle.model.specs.Format.{bytes}
use Rattle.model.specs.declared.Part.TheVariants.{Records}
use borrow.Author.Tests.{eqb-true, eq-eqb, ne_eqb}
use Rattle.exact.specs.Bounds.{Within}
use Rattle.exact.specs.Questions.{better, beats}
use Rattle.exact.specs.declared.Question.{Question}
use Rattle.exact.proofs.Bounds.{within_add, within_le, within_pos}
use Rattle.exact.proofs.Bridge.{by_test}
use Rattle.exact.proofs.Extremes.{better_first, better_second}
use Rattle.exact.proofs.Ring.{◌⊕◌, lit, ◌≐◌, solve}
use Rattle.magnitudes.specs.Magnitudes.{share_most, chain_most}
use Rattle.model.specs.Chains.{record_effect, next_record, chain_from}
use Rattle.model.specs.Decode.{terms_from}
use Rattle.model.specs.Job.{Effect, Term}
use Rattle.model.specs.Lanes.{bit}
use Rattle.model.specs.Rows.{share, names, best_chain}
use Rattle.model.specs.Answered.{omits}
use Rattle.omissions.proofs.Few.{few}
use Rattle.model.proofs.States.{SuitsAll, suits_share, chain_attained}
use Rattle.omissions.specs.ChainTables.{Distinct, NamesTo}
use Rattle.omissions.specs.declared.Share.{Share}
use Rattle.omissions.specs.declared.Chained.{Chained}
use Rattle.omissions.specs.Chained.{term_at, ShareRight, leaves_share, extended_by, ChainRight}
use Rattle.omissions.proofs.Terms.{terms_next}

-- ---- a number's bits
or_bit : (a b i : ℕ) → bit (bit_or a b) i ≡ (bit a i || bit b i)
or_bit a b i = ap (λ (k : ℕ). eqb (k % 2) 1) (or_shr a b i) ∙ last (a / 2 ^ i) (b / 2 ^ i)
  where
    digits : (x y : ℕ) → x < 2 → y < 2 → eqb (max x y % 2) 1 ≡ (eqb x 1 || eqb y 1)
    digits zero zero h k = refl
    digits zero (suc zero) h k = refl
    digits (suc zero) zero h k = refl
    digits (suc zero) (suc zero) h k = refl
    digits (suc (suc x)) y h k = absurd (omega arith)
    digits zero (suc (suc y)) h k = absurd (omega arith)
    digits (suc zero) (suc (suc y)) h k = absurd (omega arith)

    last : (x y : ℕ) → eqb (bit_or x y % 2) 1 ≡ (eqb (x % 2) 1 || eqb (y % 2) 1)
    last x y =
        ap (λ (k : ℕ). eqb (k % 2) 1) (or_step x y) ∙ ap (λ (k : ℕ). eqb k 1) (mul-add-mod_self_right (bit_or (x / 2) (y / 2)) 2 (max (x % 2) (y % 2)))
        ∙ digits (x % 2) (y % 2) (mod-lt x (omega arith)) (mod-lt y (omega arith))

pow_bit : (k i : ℕ) → bit (2 ^ k) i ≡ eqb (suc k) (suc i)
pow_bit k i = elim (ℕ_discrete k i) [
  | yes e ↦ rw e (ap (λ (n : ℕ). eqb (n % 2) 1) (div_self (pow_pos i))) ∙ sym (eq-eqb (suc k) (suc i) (ap suc e))
  | no d ↦ elim (dec_le k i) [
    | yes h ↦ ap (λ (n : ℕ). eqb (n % 2) 1) (div-eq_of_lt (pow-lt (let l : k < i = omega (arith, d) in l)))
    | no h ↦
        let e : k ≡ suc (k - suc i) + i = omega arith in
        ap (λ (n : ℕ). eqb (n % 2) 1) (ap (λ (n : ℕ). 2 ^ n / 2 ^ i) e ∙ ap (λ (n : ℕ). n / 2 ^ i) (pow-add 2 (suc (k - suc i)) i) ∙ shl-shr (2 ^ suc (k - suc i)) i ∙ pow-suc 2 (k - suc i))
        ∙ ap (λ (n : ℕ). eqb n 1) (mul-mod_left (2 ^ (k - suc i)) 2)
  ] ∙ sym (ne_eqb (suc k) (suc i) (λ p. d (omega arith)))
]

-- one effect more is left out
omits_more : (n e d : ℕ) → 1 ≤ e → omits (bit_or n (2 ^ (e - 1))) d ≡ (omits n d || eqb e d)
omits_more n zero d h = absurd (omega arith)
omits_more n (suc e) zero h = sym (ne_eqb (suc e) 0 (λ p. omega arith))
omits_more n (suc e) (suc d) h =
    let less : suc e - 1 ≡ e = omega arith in
    or_bit n (2 ^ (suc e - 1)) d ∙ ap (λ (b : Bool). bit n d || b) (ap (λ (k : ℕ). bit (2 ^ k) d) less ∙ pow_bit e d)

none_left : (e : ℕ) → omits 0 e ≡ false
none_left zero = refl
none_left (suc e) = ap (λ (k : ℕ). eqb (k % 2) 1) (div-eq_of_lt (pow_pos e))

-- ---- a chain's terms
names_first : (t : Term) (l : List Term) → names (t ∷ l) t.effect ≡ true
names_first t l = ap (λ (b : Bool). b || names l t.effect) (eq-eqb t.effect t.effect refl)

names_later : (t : Term) (l : List Term) (e : ℕ) → names l e ≡ true → names (t ∷ l) e ≡ true
names_later t l e n = ap (λ (b : Bool). eqb t.effect e || b) n ∙ or-true (eqb t.effect e)

-- where every record names one of effects 1 .. n, so do a chain's terms
pub terms_named : (n : ℕ) (s : List ℕ) → ((c : ℕ) → 1 ≤ c → bytes Records * c ≤ length s → (1 ≤ record_effect s c) × (record_effect s c ≤ n) × (bytes Records * next_record s c ≤ length s)) →
    (most c : ℕ) → bytes Records * c ≤ length s → NamesTo n (terms_from s most c)
unfolding chain_from
terms_named n s fits zero c h = tt
terms_named n s fits (suc most) zero h = tt
terms_named n s fits (suc most) (suc c) h = let f = fits (suc c) (omega arith) h in (f.0, f.1, terms_named n s fits most (next_record s (suc c)) f.2)

module _ (q : Question) (effect : ℕ → Effect) where
  -- the term may be left out, and that is better
  abbrev pub leaves_out : Term → Bool
  leaves_out t = (effect t.effect).optional && beats q (pos 0) (share effect t)

  -- a term of the chain names effect e and is left out
  abbrev pub left : List Term → ℕ → Bool
  left [] e = false
  left (t ∷ rest) e = (eqb t.effect e && leaves_out t) || left rest e

  -- it is on the chain and marked 2
  left_names : (l : List Term) (e : ℕ) → left l e ≡ true → (names l e ≡ true) × ((effect e).optional ≡ true)
  left_names [] e h = absurd (false≢true h)
  left_names (t ∷ l) e h = go (eqb t.effect e) (leaves_out t) refl refl h (left_names l e)
    where
      go : (b m : Bool) → eqb t.effect e ≡ b → leaves_out t ≡ m → ((b && m) || left l e) ≡ true → (left l e ≡ true → (names l e ≡ true) × ((effect e).optional ≡ true)) → ((b || names l e) ≡ true) × ((effect e).optional ≡ true)
      go true true p o h less = (refl, ap (λ (k : ℕ). (effect k).optional) (sym (eqb-true t.effect e p)) ∙ ((and-eq-true_iff (effect t.effect).optional (beats q (pos 0) (share effect t))).0 o).0)
      go true false p o h less = (refl, (less h).1)
      go false m p o h less = less h

  -- of a chain that names no effect twice, each term is left out where that is better
  suits : (f : ℕ → Bool) (l : List Term) → Distinct l → ((e : ℕ) → names l e ≡ true → f e ≡ left l e) → SuitsAll q effect f l
  suits f [] d h = tt
  suits f (t ∷ l) d h = (suits_share q effect f t (h t.effect (names_first t l) ∙ own), suits f l d.1 (λ e n. h e (names_later t l e n) ∙ other e n))
    where
      absent : left l t.effect ≡ false
      absent = by_test (left l t.effect) (λ b. b ≡ false) (λ p. absurd (true≢false (sym (left_names l t.effect p).0 ∙ d.0))) (λ _. refl)

      own : left (t ∷ l) t.effect ≡ leaves_out t
      own = ap₂ (λ (b c : Bool). (b && leaves_out t) || c) (eq-eqb t.effect t.effect refl) absent ∙ or-false (leaves_out t)

      other : (e : ℕ) → names l e ≡ true → left (t ∷ l) e ≡ left l e
      other e n = ap (λ (b : Bool). (b && leaves_out t) || left l e) (ne_eqb t.effect e (λ p. true≢false (sym n ∙ ap (names l) (sym p) ∙ d.0)))

  best_step : (t : Term) (rest : List Term) {b : Bool} → leaves_out t ≡ b → best_chain q effect (t ∷ rest) ≡ (if b then pos 0 else share effect t) +ℤ best_chain q effect rest
  unfolding best_chain
  best_step t rest e = ap (λ (z : ℤ). z +ℤ best_chain q effect rest) (go (effect t.effect).optional ∙ ap (λ (b : Bool). if b then pos 0 else share effect t) e)
    where
      go : (m : Bool) → (if m then better q (pos 0) (share effect t) else share effect t) ≡ (if m && beats q (pos 0) (share effect t) then pos 0 else share effect t)
      go true = by_test (beats q (pos 0) (share effect t)) (λ b. better q (pos 0) (share effect t) ≡ (if b then pos 0 else share effect t)) (better_first q (pos 0) (share effect t)) (better_second q (pos 0) (share effect t))
      go false = refl

  -- ---- the walk: what is in hand after i records, with the best of what is left, is the best of the whole
  pub record Sofar (whole rest : List Term) (i : ℕ) (x : Chained) : Type 0 where
    pub value : x.value +ℤ best_chain q effect rest ≡ best_chain q effect whole
    pub omitted : (e : ℕ) → (omits x.omitted e || left rest e) ≡ left whole e
    pub near : Within (share_most * i) x.value
    pub walked : i + length rest ≡ length whole

  pub sofar_more : (whole rest : List Term) (t : Term) (i : ℕ) (own : Share) (x : Chained) → ShareRight effect t own → Sofar whole (t ∷ rest) i x → Sofar whole rest (i + 1) (extended_by q own x)
  sofar_more whole rest t i own x r s =
      let same : leaves_out t ≡ leaves_share q own = ap₂ (λ (m : Bool) (z : ℤ). m && beats q (pos 0) z) (sym r.optional) (sym r.value) in
      let walked : i + 1 + length rest ≡ length whole = omega (arith, s.walked) in
      by_test (leaves_share q own) (λ b. Sofar whole rest (i + 1) (if b then record { value = x.value; omitted = bit_or x.omitted own.bit } else record { value = x.value +ℤ own.value; omitted = x.omitted }))
      (λ e. record {
        value = ap (λ (z : ℤ). x.value +ℤ z) (solve 1 (λ z. z ≐ lit 0 ⊕ z) tt (best_chain q effect rest) ∙ sym (best_step t rest (same ∙ e))) ∙ s.value;
        omitted = λ d.
            ap (λ (b : Bool). b || left rest d) (ap (λ (k : ℕ). omits (bit_or x.omitted k) d) r.bit ∙ omits_more x.omitted t.effect d r.first)
            ∙ out (omits x.omitted d) (eqb t.effect d) (left rest d) ∙ ap (λ (m : Bool). omits x.omitted d || ((eqb t.effect d && m) || left rest d)) (sym (same ∙ e)) ∙ s.omitted d;
        near = within_le s.near (omega arith);
        walked = walked;
      })
      (λ e. record {
        value =
            solve 3 (λ a b c. (a ⊕ b) ⊕ c ≐ a ⊕ (b ⊕ c)) tt x.value own.value (best_chain q effect rest)
            ∙ ap (λ (z : ℤ). x.value +ℤ z) (ap (λ (z : ℤ). z +ℤ best_chain q effect rest) r.value ∙ sym (best_step t rest (same ∙ e))) ∙ s.value;
        omitted = λ d. kept (omits x.omitted d) (eqb t.effect d) (left rest d) ∙ ap (λ (m : Bool). omits x.omitted d || ((eqb t.effect d && m) || left rest d)) (sym (same ∙ e)) ∙ s.omitted d;
        near = within_le (within_add s.near r.near) (omega arith);
        walked = walked;
      })
    where
      out : (a b c : Bool) → ((a || b) || c) ≡ (a || ((b && true) || c))
      out true b c = refl
      out false true c = refl
      out false false c = refl

      kept : (a b c : Bool) → (a || c) ≡ (a || ((b && false) || c))
      kept a true c = refl
      kept a false c = refl

  -- its start
  pub sofar_none : (whole : List Term) → Sofar whole whole 0 (record { value = pos 0; omitted = 0 })
  sofar_none whole = record { value = solve 1 (λ z. lit 0 ⊕ z ≐ z) tt (best_chain q effect whole); omitted = λ d. ap (λ (b : Bool). b || left whole d) (none_left d); near = within_pos _ (omega arith); walked = omega arith }

  -- its next record, as the code counts
  pub sofar_next : (s : List ℕ) (whole : List Term) (count i c n : ℕ) (own : Share) (x : Chained) → ¬ (c ≡ 0) → i < count → n ≡ next_record s c → ShareRight effect (term_at s c) own →
      Sofar whole (terms_from s (count - i) c) i x → Sofar whole (terms_from s (count - (i + 1)) n) (i + 1) (extended_by q own x)
  sofar_next s whole count i c n own x there l e right sofar =
      let less : count - i - 1 ≡ count - (i + 1) = omega arith in
      subst (λ (k : ℕ). Sofar whole (terms_from s (count - (i + 1)) k) (i + 1) (extended_by q own x)) (sym e)
      (subst (λ (k : ℕ). Sofar whole (terms_from s k (next_record s c)) (i + 1) (extended_by q own x)) less
      (sofar_more whole (terms_from s (count - i - 1) (next_record s c)) (term_at s c) i own x right
      (subst (λ (r : List Term). Sofar whole r i x) (terms_next s (count - i) c there (λ z. omega arith)) sofar)))

  module _ {whole rest : List Term} {i : ℕ} {x : Chained} (s : Sofar whole rest i x) (d : Distinct whole) (m : NamesTo 16 whole) where
    -- there is room for a share more
    pub sofar_near : Within chain_most x.value
    sofar_near = let i16 : i ≤ 16 = omega (arith, s.walked, few 16 whole d m) in within_le s.near (omega arith)

    -- nothing is left
    pub sofar_all : rest ≡ [] → ChainRight q effect whole x
    unfolding best_chain
    sofar_all e =
        let value = sym (solve 1 (λ z. z ⊕ lit 0 ≐ z) tt x.value) ∙ ap (λ (l : List Term). x.value +ℤ best_chain q effect l) (sym e) ∙ s.value in
        record { value = value; gives = chain_attained q effect (omits x.omitted) whole (suits (omits x.omitted) whole d (λ k _. is k)) ∙ sym value; may_omit = λ k t. left_names whole k (sym (is k) ∙ t); near = sofar_near }
      where
        is : (k : ℕ) → omits x.omitted k ≡ left whole k
        is k = sym (or-false (omits x.omitted k)) ∙ ap (λ (l : List Term). omits x.omitted k || left l k) (sym e) ∙ s.omitted k
