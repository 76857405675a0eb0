-- What may be left out of a row of the form: what may be left out of the job's row, but no effect whose factor is 0.
use Rattle.std.specs.Prelude.{if◌then◌else◌, None}
use mathlib.Core.Path.{◌≡◌, refl, sym, ◌∙◌, ap, subst}
use mathlib.Core.Bool.{Bool, true, ◌||◌, false≢true}
use mathlib.Core.Logic.{◌↔◌}
use mathlib.Core.List.{List, [], ◌∷◌}
use Prim.Native.Nat.{ℕ, zero, suc, ◌+◌, ◌≤◌, ◌<◌}
use native.Mathlib.Omega.{arith}
use lib.Dec.{eqb}
use borrow.Author.Tests.{eqb-true, eqb-false}
use Rattle.exact.proofs.Bridge.{by_test}
use Rattle.model.specs.Decode.{decode}
use Rattle.model.specs.Format.{header_of}
use Rattle.model.specs.Job.{Effect, Term, Job}
use Rattle.model.specs.Refusals.{highway_verdict}
use Rattle.model.specs.Rows.{names, MayOmit}
use Rattle.model.specs.StandardForm.{factor_of, row_factor, rising, terms_of, form}
use Rattle.forms.proofs.Rising.{Each, TermFits, unnamed, rising_factor}
use Rattle.forms.proofs.Listed.{Listed, row_chain}
use Rattle.forms.proofs.Parts.{form_listed, form_chain}
use Rattle.forms.proofs.Standard.{listed, says}
use Rattle.forms.proofs.Admitted.{form_accepted}
use Rattle.forms.proofs.Values.{same_but_rows}

-- an effect that has a factor is named
named : (l : List Term) (e : ℕ) → ¬ (factor_of l e ≡ 0) → names l e ≡ true
named l e h = by_test (names l e) (λ t. t ≡ true) (λ _. refl) (λ t. absurd (h (unnamed l e t)))

-- a named effect is one of n
within : (n : ℕ) (l : List Term) → Each (TermFits n) l → (e : ℕ) → names l e ≡ true → (1 ≤ e) × (e ≤ n)
within n [] fit e h = absurd (false≢true h)
within n (t ∷ rest) fit e h =
    by_test (eqb t.effect e) (λ b. (b || names rest e) ≡ true → (1 ≤ e) × (e ≤ n))
    (λ b _. let q = eqb-true t.effect e b in let f = fit.0 in (omega (arith, f.least), omega (arith, f.most)))
    (λ _ r. within n rest fit.1 e r) h

-- terms that rise name those with a factor
rising_named : (f : ℕ → ℕ) (e n d : ℕ) → names (rising f e n) d ≡ true → ¬ (f d ≡ 0)
rising_named f e zero d h = absurd (false≢true h)
rising_named f e (suc n) d h =
    by_test (eqb (f e) 0) (λ b. names (if b then rising f (suc e) n else (record { effect = e; factor = f e } ∷ rising f (suc e) n)) d ≡ true → ¬ (f d ≡ 0))
    (λ _ r. rising_named f (suc e) n d r)
    (λ z r.
    by_test (eqb e d) (λ b. (b || names (rising f (suc e) n) d) ≡ true → ¬ (f d ≡ 0))
    (λ b _ q. eqb-false (f e) 0 z (ap f (eqb-true e d b) ∙ q)) (λ _ s. rising_named f (suc e) n d s) r) h

names_rising : (f : ℕ → ℕ) (e n d : ℕ) → e ≤ d → d < e + n → ¬ (f d ≡ 0) → names (rising f e n) d ≡ true
names_rising f e n d l m h = named (rising f e n) d (λ z. h (sym (rising_factor f e n d l m) ∙ z))

module _ (b : List ℕ) (accepted : highway_verdict b ≡ None) (i : ℕ) (h : i < (header_of b).rows) where
  abbrev f : List ℕ
  f = form b

  ok : Listed b
  ok = listed b accepted

  -- the form's chain, and the job's
  form_terms : ((decode f).row (suc i)).chain 0 ≡ terms_of b (suc i)
  form_terms = row_chain f (form_listed b ok) i ∙ form_chain b ok i h

  same_effects : (decode f).effect ≡ (decode b).effect
  same_effects = ap (λ (j : Job). j.effect) (same_but_rows b f accepted (form_accepted b accepted) (says b accepted))

  -- an effect is named in the form's row exactly where it is in the job's with a factor
  names_form : (e : ℕ) → (names (((decode f).row (suc i)).chain 0) e ≡ true) ↔ ((names (((decode b).row (suc i)).chain 0) e ≡ true) × ¬ (row_factor (decode b) (suc i) e ≡ 0))
  unfolding terms_of
  names_form e = (
    λ t. let z = rising_named (row_factor (decode b) (suc i)) 1 (header_of b).effects e (ap (λ (ts : List Term). names ts e) (sym form_terms) ∙ t) in (named (((decode b).row (suc i)).chain 0) e z, z),
    λ p.
        let chain = row_chain b ok.listed i in
        let w = within (header_of b).effects (((decode b).row (suc i)).chain 0) (subst (Each (TermFits (header_of b).effects)) (sym chain) (ok.terms i h)) e p.0 in
        ap (λ (ts : List Term). names ts e) form_terms ∙ names_rising (row_factor (decode b) (suc i)) 1 (header_of b).effects e w.0 (omega (arith, w.1)) p.1,
  )

  -- what may be left out of a row of the form
  pub form_omits : (out : ℕ → Bool) → MayOmit (decode f).effect (((decode f).row (suc i)).chain 0) out ↔ (MayOmit (decode b).effect (((decode b).row (suc i)).chain 0) out × ((e : ℕ) → out e ≡ true → ¬ (row_factor (decode b) (suc i) e ≡ 0)))
  form_omits out = (
    λ m. (
      λ e t. let p = m e t in (((names_form e).0 p.0).0, ap (λ (g : ℕ → Effect). (g e).optional) (sym same_effects) ∙ p.1),
      λ e t. ((names_form e).0 (m e t).0).1,
    ),
    λ m e t. let p = m.0 e t in ((names_form e).1 (p.0, m.1 e t), ap (λ (g : ℕ → Effect). (g e).optional) same_effects ∙ p.1),
  )
