-- The walk of a built-in row's chain: the eleven effects in order, where a share of factor 0 changes nothing.
use Rattle.std.specs.Prelude.{if◌then◌else◌}
use mathlib.Core.Path.{◌≡◌, refl, sym, ◌∙◌, ap, ap₂, subst}
use mathlib.Core.Bool.{Bool, true, false, ◌&&◌, ◌||◌}
use mathlib.Core.List.{List, ◌∷◌}
use Prim.Native.Nat.{ℕ, zero, suc, ◌+◌, ◌-◌, ◌≤◌, ◌<◌}
use native.Mathlib.Omega.{arith}
use lib.Bits.{bit_or}
use lib.Dec.{eqb}
use lib.IntN.{ℤ, pos, ◌+ℤ◌}
use borrow.Author.Tests.{eqb-true, ne_eqb}
use Rattle.exact.specs.Bounds.{Within}
use Rattle.exact.specs.Questions.{beats}
use Rattle.exact.specs.declared.Question.{Question}
use Rattle.exact.specs.declared.Question.TheVariants.{Greatest, Least}
use Rattle.exact.proofs.Bridge.{by_test}
use Rattle.exact.proofs.Ring.{◌⊕◌, ◌⊗◌, lit, ◌≐◌, solve}
use Rattle.magnitudes.specs.Magnitudes.{chain_most}
use Rattle.model.specs.Job.{Effect, Term}
use Rattle.model.specs.Rows.{names}
use Rattle.model.specs.RuralBridges.{terms_by}
use Rattle.omissions.specs.ChainTables.{Distinct, NamesTo}
use Rattle.omissions.specs.declared.Share.{Share}
use Rattle.omissions.specs.declared.Chained.{Chained}
use Rattle.omissions.specs.Chained.{term_of, ShareRight, extended_by, ChainRight}
use Rattle.omissions.proofs.Omissions.{Sofar, sofar_more, sofar_near, sofar_all}

-- ---- its terms
module _ (f : ℕ → ℕ) where
  -- with effect e's, where it has a factor
  abbrev onward : (e n : ℕ) → Bool → List Term
  onward e n b = if b then terms_by f (suc e) n else term_of e (f e) ∷ terms_by f (suc e) n

  -- an earlier effect is not named
  names_later : (e n d : ℕ) → d < e → names (terms_by f e n) d ≡ false
  names_later e zero d h = refl
  names_later e (suc n) d h =
      let rest = names_later (suc e) n d (omega arith) in
      by_test (eqb (f e) 0) (λ b. names (onward e n b) d ≡ false) (λ _. rest) (λ _. ap₂ ◌||◌ (ne_eqb e d (λ p. omega arith)) rest)

  distinct_by : (e n : ℕ) → Distinct (terms_by f e n)
  distinct_by e zero = tt
  distinct_by e (suc n) = by_test (eqb (f e) 0) (λ b. Distinct (onward e n b)) (λ _. distinct_by (suc e) n) (λ _. (names_later (suc e) n e (omega arith), distinct_by (suc e) n))

  named_by : (m e n : ℕ) → 1 ≤ e → e + n ≤ suc m → NamesTo m (terms_by f e n)
  named_by m e zero h k = tt
  named_by m e (suc n) h k =
      let rest = named_by m (suc e) n (omega arith) (omega arith) in
      by_test (eqb (f e) 0) (λ b. NamesTo m (onward e n b)) (λ _. rest) (λ _. (h, omega arith, rest))

  -- the terms from effect e on, as the code counts
  abbrev onwards : ℕ → List Term
  onwards e = terms_by f e (12 - e)

  onwards_step : (e : ℕ) → e < 12 → onwards e ≡ (if eqb (f e) 0 then onwards (e + 1) else term_of e (f e) ∷ onwards (e + 1))
  onwards_step e h =
      let a : 12 - e ≡ suc (12 - (e + 1)) = omega arith in
      let b : suc e ≡ e + 1 = omega arith in
      ap (terms_by f e) a ∙ ap (λ (k : ℕ). if eqb (f e) 0 then terms_by f k (12 - (e + 1)) else term_of e (f e) ∷ terms_by f k (12 - (e + 1))) b

-- ---- the walk
module _ (q : Question) (effect : ℕ → Effect) where
  never : (p : Question) → beats p (pos 0) (pos 0) ≡ false
  never Greatest = refl
  never Least = refl

  -- a share of factor 0 changes nothing
  nothing_more : (e : ℕ) (own : Share) (x : Chained) → ShareRight effect (term_of e 0) own → extended_by q own x ≡ x
  nothing_more e own x r =
      let none : own.value ≡ pos 0 = r.value ∙ solve 1 (λ z. lit 0 ⊗ z ≐ lit 0) tt (effect e).value in
      ap₂ by (ap (beats q (pos 0)) none ∙ never q) none ∙ kept own.optional
    where
      by : Bool → ℤ → Chained
      by b z = if own.optional && b then record { value = x.value; omitted = bit_or x.omitted own.bit } else record { value = x.value +ℤ z; omitted = x.omitted }

      kept : (o : Bool) → (if o && false then record { value = x.value; omitted = bit_or x.omitted own.bit } else record { value = x.value +ℤ pos 0; omitted = x.omitted }) ≡ x
      kept true = ap (λ (z : ℤ). record { value = z; omitted = x.omitted }) (solve 1 (λ z. z ⊕ lit 0 ≐ z) tt x.value)
      kept false = ap (λ (z : ℤ). record { value = z; omitted = x.omitted }) (solve 1 (λ z. z ⊕ lit 0 ≐ z) tt x.value)

  -- what is in hand before effect e
  pub record GroupSofar (f : ℕ → ℕ) (e : ℕ) (x : Chained) : Type 0 where
    pub terms : ℕ
    pub sofar : Sofar q effect (terms_by f 1 11) (onwards f e) terms x

  pub group_more : (f : ℕ → ℕ) (e : ℕ) (own : Share) (x : Chained) → e < 12 → ShareRight effect (term_of e (f e)) own → GroupSofar f e x → GroupSofar f (e + 1) (extended_by q own x)
  group_more f e own x h r g =
      by_test (eqb (f e) 0) (λ b. onwards f e ≡ (if b then onwards f (e + 1) else term_of e (f e) ∷ onwards f (e + 1)) → GroupSofar f (e + 1) (extended_by q own x))
      (λ b is. record {
        terms = g.terms;
        sofar =
            subst (Sofar q effect (terms_by f 1 11) (onwards f (e + 1)) g.terms) (sym (nothing_more e own x (subst (λ (k : ℕ). ShareRight effect (term_of e k) own) (eqb-true (f e) 0 b) r)))
            (subst (λ (l : List Term). Sofar q effect (terms_by f 1 11) l g.terms x) is g.sofar);
      })
      (λ b is. record {
        terms = g.terms + 1;
        sofar = sofar_more q effect (terms_by f 1 11) (onwards f (e + 1)) (term_of e (f e)) g.terms own x r (subst (λ (l : List Term). Sofar q effect (terms_by f 1 11) l g.terms x) is g.sofar);
      })
      (onwards_step f e h)

  module _ {f : ℕ → ℕ} {e : ℕ} {x : Chained} (g : GroupSofar f e x) where
    -- there is room for a share more
    pub group_near : Within chain_most x.value
    group_near = sofar_near q effect g.sofar (distinct_by f 1 11) (named_by f 16 1 11 (omega arith) (omega arith))

    -- all eleven have been walked
    pub group_all : e ≡ 12 → ChainRight q effect (terms_by f 1 11) x
    group_all p = sofar_all q effect g.sofar (distinct_by f 1 11) (named_by f 16 1 11 (omega arith) (omega arith)) (ap (onwards f) p)
