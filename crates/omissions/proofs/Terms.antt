-- A chain's terms, record by record, and that a chain which comes back to no record and names no effect twice has distinct terms.
use mathlib.Core.Path.{◌≡◌, refl, sym, ◌∙◌, ap, subst}
use mathlib.Core.Bool.{true, false, ◌||◌, true≢false, false≢true}
use mathlib.Core.List.{List, [], ◌∷◌}
use Prim.Native.Nat.{ℕ, zero, suc, ◌-◌, ◌≤◌}
use native.Mathlib.Nat.{le_refl}
use native.Mathlib.Omega.{arith}
use lib.Dec.{eqb}
use borrow.Author.Tests.{eqb-true}
use Rattle.exact.proofs.Bridge.{by_test}
use Rattle.model.specs.Chains.{record_effect, next_record, chain_from, step, walk, EverRepeats, returns, names_twice}
use Rattle.model.specs.Decode.{terms_from}
use Rattle.model.specs.Rows.{names}
use Rattle.omissions.specs.ChainTables.{Distinct}
use Rattle.model.proofs.Chains.{Bounded, names_exact}
use Rattle.omissions.specs.Chained.{term_at}

-- ---- by the record that it starts from
pub terms_none : (s : List ℕ) (left c : ℕ) → c ≡ 0 → terms_from s left c ≡ []
unfolding chain_from
terms_none s zero c e = refl
terms_none s (suc left) c e = rw e refl

pub terms_spent : (s : List ℕ) (left c : ℕ) → left ≡ 0 → terms_from s left c ≡ []
unfolding chain_from
terms_spent s left c e = rw e refl

pub terms_next : (s : List ℕ) (left c : ℕ) → ¬ (c ≡ 0) → ¬ (left ≡ 0) → terms_from s left c ≡ term_at s c ∷ terms_from s (left - 1) (next_record s c)
unfolding chain_from
terms_next s zero c h k = absurd (k refl)
terms_next s (suc left) zero h k = absurd (h refl)
terms_next s (suc left) (suc c) h k = let e : suc left - 1 ≡ left = omega arith in rw e refl

-- ---- distinct terms
-- effect e is named at some step from j on
record NamedFrom (s : List ℕ) (f j e : ℕ) : Type 0 where
  at : ℕ
  late : j ≤ at
  there : ¬ (walk s f at ≡ 0)
  its : record_effect s (walk s f at) ≡ e

named_from : (s : List ℕ) (f e most j : ℕ) → names (terms_from s most (walk s f j)) e ≡ true → NamedFrom s f j e
unfolding chain_from walk
named_from s f e zero j t = absurd (false≢true t)
named_from s f e (suc most) j t = go (named_from s f e most (suc j)) (walk s f j) refl t
  where
    go : (names (terms_from s most (walk s f (suc j))) e ≡ true → NamedFrom s f (suc j) e) → (c : ℕ) → walk s f j ≡ c → names (terms_from s (suc most) c) e ≡ true → NamedFrom s f j e
    go less zero w t = absurd (false≢true t)
    go less (suc c) w t =
        by_test (eqb (record_effect s (suc c)) e) (λ b. (b || names (terms_from s most (next_record s (suc c))) e) ≡ true → NamedFrom s f j e)
        (λ b _. record { at = j; late = le_refl j; there = λ z. omega (arith, w); its = ap (record_effect s) w ∙ eqb-true _ _ b })
        (λ _ t.
        let r = less (ap (λ (k : ℕ). names (terms_from s most (step s k)) e) w ∙ t) in
        let l = r.late in
        record { at = r.at; late = omega arith; there = r.there; its = r.its }) t

distinct_from : (s : List ℕ) (f : ℕ) → ¬ EverRepeats s f (record_effect s) → (most j : ℕ) → Distinct (terms_from s most (walk s f j))
unfolding chain_from walk
distinct_from s f never zero j = tt
distinct_from s f never (suc most) j = go (distinct_from s f never most (suc j)) (walk s f j) refl
  where
    go : Distinct (terms_from s most (walk s f (suc j))) → (c : ℕ) → walk s f j ≡ c → Distinct (terms_from s (suc most) c)
    go less zero w = tt
    go less (suc c) w = (
      by_test (names (terms_from s most (next_record s (suc c))) (record_effect s (suc c))) (λ b. b ≡ false)
          (λ t.
          let r = named_from s f (record_effect s (suc c)) most (suc j) (ap (λ (k : ℕ). names (terms_from s most (step s k)) (record_effect s (suc c))) w ∙ t) in
          let l = r.late in
          absurd (never (record { earlier = j; later = r.at; in_order = omega arith; on_chain = r.there; same = ap (record_effect s) w ∙ sym r.its })))
          (λ _. refl),
      subst (λ (k : ℕ). Distinct (terms_from s most (step s k))) w less,
    )

-- a chain of n records that comes back to none and names no effect twice
pub distinct_terms : (s : List ℕ) (n f : ℕ) → Bounded s n f → returns s n f ≡ false → names_twice s n f ≡ false → Distinct (terms_from s n f)
unfolding walk
distinct_terms s n f m r e = distinct_from s f (λ v. true≢false (sym ((names_exact s n f m r).1 v) ∙ e)) n 0
