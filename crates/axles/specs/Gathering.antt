-- What is gathered of a train: its first twelve axles and how many it has.
use Rattle.std.specs.Prelude.{List, [], ◌∷◌, length}
use Rattle.model.specs.Trains.{axle_at}
use Rattle.model.specs.declared.Axle.{Axle}
use Rattle.axles.specs.declared.Gathered.{Gathered}

-- the first twelve axles, and empty ones past the train's end
abbrev pub twelve : List Axle → List Axle
twelve t = axle_at t 0 ∷ axle_at t 1 ∷ axle_at t 2 ∷ axle_at t 3 ∷ axle_at t 4 ∷ axle_at t 5 ∷ axle_at t 6 ∷ axle_at t 7 ∷ axle_at t 8 ∷ axle_at t 9 ∷ axle_at t 10 ∷ axle_at t 11 ∷ []

-- what is gathered of a train
abbrev pub gathered_of : List Axle → Gathered
gathered_of t = record { axles = twelve t; count = length t }
