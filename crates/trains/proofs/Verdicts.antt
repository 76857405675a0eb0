-- The verdict on a call, made of the tests' refusals.
use mathlib.Core.Path.{◌≡◌, refl, sym, ◌∙◌, ap}
use mathlib.Core.Bool.{true, false}
use Rattle.std.specs.Prelude.{Option, None, Some, Result, Ok, Err, IsErrAnd, MatchResult}
use mathlib.Core.List.{List}
use Prim.Native.Nat.{ℕ}
use lib.ListN.{length}
use Rattle.words.specs.Fields.{misfit}
use Rattle.model.specs.Format.{line_layout, ordinate_limit}
use Rattle.model.specs.Refusals.{refuse, signs}
use Rattle.model.specs.declared.Refusal.{Refusal}
use Rattle.model.specs.Trains.{TrainCall, arguments_fit, train_fault, train_tests, train_verdict}
use Rattle.model.specs.declared.Axle.{Axle}
use Rattle.model.specs.declared.Edition.TheVariants.{First}

module _ (c : TrainCall) (room : ℕ) where
  pub refused_2 : arguments_fit c.h c.pieces (length c.section) c.mode room ≡ false → train_verdict c room ≡ Some (record { number = 2; place = 0 })
  unfolding train_verdict train_tests
  refused_2 e = rw e refl

  pub past_2 : arguments_fit c.h c.pieces (length c.section) c.mode room ≡ true →
      refuse 4 (misfit (line_layout (ordinate_limit First) c.pieces) c.section) (refuse 5 (misfit (signs c.pieces) c.section) (refuse 10 (train_fault c.h c.train) None)) ≡ train_verdict c room
  unfolding train_verdict train_tests
  past_2 e = rw e refl

-- a refusal that `?` hands on
pub handed : {A : Type 0} (P : A → Type 0) (x : Result A Refusal) {r : Refusal} {v : Option Refusal} → IsErrAnd x (λ y. y ≡ r) → v ≡ Some r → MatchResult x P (λ y. v ≡ Some y)
handed P (Ok a) h e = absurd h
handed P (Err y) h e = e ∙ ap Some (sym h)

-- trains of one fault have one verdict
pub by_fault : (h n mode room : ℕ) (s : List ℕ) (t u : List Axle) → train_fault h t ≡ train_fault h u →
    train_verdict (record { h = h; pieces = n; section = s; train = t; mode = mode }) room ≡ train_verdict (record { h = h; pieces = n; section = s; train = u; mode = mode }) room
unfolding train_verdict train_tests
by_fault h n mode room s t u e = rw e refl
