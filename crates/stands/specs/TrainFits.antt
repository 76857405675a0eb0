-- What the search asks of a train and a line.
use Rattle.std.specs.Prelude.{ℕ, ◌≤◌, ◌<◌, ◌≡◌, List, length, None}
use Rattle.words.specs.Fields.{misfit}
use Rattle.model.specs.Refusals.{signs}
use Rattle.model.specs.Trains.{axle_at, train_length}
use Rattle.model.specs.declared.Axle.{Axle}
use Rattle.pair.specs.LineFits.{LineFits}

-- a train whose axles are within their limits, none past the last
pub record TrainFits (t : List Axle) : Type 0 where
  pub some : 1 ≤ length t
  pub few : length t ≤ 12
  pub load : (i : ℕ) → i < length t → (axle_at t i).load ≤ 400
  pub at : (i : ℕ) → i < length t → (axle_at t i).at ≤ train_length t
  pub short : train_length t ≤ 500

-- a train that fits, and a line of n pieces, each of one sign
pub record Ratable (s : List ℕ) (h n : ℕ) (t : List Axle) : Type 0 where
  pub line : LineFits s n
  pub sided : misfit (signs n) s ≡ None
  pub length : 1 ≤ h
  pub train : TrainFits t
