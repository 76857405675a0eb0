use mathlib.Core.Path.{◌≡◌}
use Prim.Native.Nat.{ℕ, ◌/◌, ◌<◌}
use lib.ListN.{length}
use Rattle.model.specs.Trains.{axle_at, distance}
use Rattle.stands.proofs.in_pieces.Given as goal

abbrev pub invariant-loop-i : goal.invariant-loop-i
invariant-loop-i l = (length l.axles ≡ 12) × ((j : ℕ) → j < l.i → ((axle_at l.axles j).load ≡ (axle_at l.train j).load) × ((axle_at l.axles j).at ≡ distance l.way l.train j / l.h))
