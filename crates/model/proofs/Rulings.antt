-- How a verdict goes from test to test, as the code gives it.
use mathlib.Core.Path.{◌≡◌, refl, ◌∙◌, ap}
use Rattle.std.specs.Prelude.{Option, None, Some, Result, Ok, Err, IsErrAnd}
use Prim.Native.Nat.{ℕ}
use Rattle.model.specs.Refusals.{refuse, as_result}
use Rattle.model.specs.declared.Refusal.{Refusal}

-- a verdict by its result
pub is_accepted : (v : Option Refusal) {u : Unit {0}} → Ok u ≡ as_result v → v ≡ None
is_accepted None e = refl
is_accepted (Some r) e = cc

pub is_refused : (v : Option Refusal) {r : Refusal} → Err r ≡ as_result v → v ≡ Some r
is_refused None e = cc
is_refused (Some p) e = cc

module _ (n : ℕ) {o f : Option ℕ} (found : o ≡ f) where
  -- a test that finds no place refuses nothing
  pub passed : {u : Unit {0}} → Ok u ≡ as_result (refuse n o None) → f ≡ None
  passed {u} e = go f (e ∙ ap (λ o. as_result (refuse n o None)) found)
    where
      go : (f : Option ℕ) → Ok u ≡ as_result (refuse n f None) → f ≡ None
      go None e = refl
      go (Some p) e = cc

  -- one that finds a place refuses, whatever the later ones find
  pub refused : (later : Option Refusal) {r : Refusal} {x : Result (Unit {0}) Refusal} → Err r ≡ as_result (refuse n o None) → IsErrAnd x (λ y. y ≡ r) → x ≡ as_result (refuse n f later)
  refused later {r} {x} e h = handed x h ∙ go f (e ∙ ap (λ o. as_result (refuse n o None)) found)
    where
      handed : (x : Result (Unit {0}) Refusal) → IsErrAnd x (λ y. y ≡ r) → x ≡ Err r
      handed (Ok u) h = absurd h
      handed (Err y) h = ap Err h

      go : (f : Option ℕ) → Err r ≡ as_result (refuse n f None) → Err r ≡ as_result (refuse n f later)
      go None e = cc
      go (Some p) e = e

  pub refused_by : (later : Option Refusal) {r : Refusal} → Err r ≡ as_result (refuse n o None) → refuse n f later ≡ Some r
  refused_by later {r} e = go f (e ∙ ap (λ o. as_result (refuse n o None)) found)
    where
      go : (f : Option ℕ) → Err r ≡ as_result (refuse n f None) → refuse n f later ≡ Some r
      go None e = cc
      go (Some p) e = cc
