-- What is rated of the train that was gathered is rated of the train given.
use mathlib.Core.Path.{◌≡◌, sym, ◌∙◌, subst}
use mathlib.Core.List.{List}
use Prim.Native.Nat.{ℕ}
use lib.ListN.{length}
use Rattle.model.specs.Decode.{influence_line}
use Rattle.model.specs.Trains.{TrainCall, mode_of, RatingRight, train_verdict}
use Rattle.model.specs.declared.Axle.{Axle}
use Rattle.model.proofs.TrainLimits.{call_clear, axle_count}
use Rattle.axles.specs.Gathering.{gathered_of}
use Rattle.axles.proofs.Trains.{gathered_train}
use Rattle.trains.specs.TrainOf.{train_of}
use Rattle.trains.specs.Rated.{Rated, refused, rated}
use Rattle.trains.proofs.Gathering.{train_few, gathered_fault}
use Rattle.trains.proofs.Verdicts.{by_fault}

module _ (h n mode : ℕ) (s : List ℕ) (t : List Axle) where
  abbrev call : List Axle → TrainCall
  call u = record { h = h; pieces = n; section = s; train = u; mode = mode }

  same : (room : ℕ) → train_verdict (call (train_of (gathered_of t))) room ≡ train_verdict (call t) room
  same room = by_fault h n mode room s (train_of (gathered_of t)) t (gathered_fault h t)

  pub given_rated : {before after : List ℕ} {r : ℕ} → Rated (call (train_of (gathered_of t))) before r after → Rated (call t) before r after
  given_rated {before} (refused r v e a) = refused r (sym (same (length before)) ∙ v) e a
  given_rated {before} (rated v r right e a k) =
      let w = sym (same (length before)) ∙ v in
      let few = (axle_count h t (call_clear (call t) (length before) w).train).1 in
      rated w r (subst (λ (u : List Axle). RatingRight (mode_of mode) (influence_line s h n) u r) (train_few (gathered_of t) few ∙ gathered_train t few) right) e a k
