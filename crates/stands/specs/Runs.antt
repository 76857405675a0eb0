-- What the search has in hand. A run has the leftmost axle on one piece: run m on piece m less the train's length in pieces, from the line's left end.
-- Places count stations and sides: place p is station p / 2 less the train's length, from the left where p is even. A run's left end is place 2 m + 1, its right end 2 m + 2.
use Rattle.std.specs.Prelude.{ℕ, ◌+◌, ◌-◌, ◌*◌, ◌/◌, ◌≤◌, ◌<◌, ◌≡◌, ◌&&◌, List, if◌then◌else◌}
use lib.{IntN.ℤ, IntN.pos, IntN.◌*ℤ◌, ListN.length, Dec.leb, Dec.ltb}
use Rattle.exact.specs.Bounds.{Within}
use Rattle.exact.specs.{Ranges.sum_to, Questions.extreme, declared.Question.Question}
use Rattle.words.specs.Words.{word_at}
use Rattle.model.specs.{Job.InfluenceLine, Format.size, Trains.axle_at, Trains.train_length, Trains.distance, Trains.counted, Trains.train_effect, Trains.train_station, declared.Part.TheVariants.Line, declared.Axle.Axle, declared.Way.Way, declared.Mode.Mode}
use Rattle.magnitudes.specs.Magnitudes.{train_most}
use Rattle.pair.specs.PairPlaces.{side_at}
use Rattle.stands.specs.declared.{Spaced.Spaced, Best.Best}

-- a train one way round: each axle's distance from the leftmost, and the train's length, in pieces
pub record SpacedRight (way : Way) (h : ℕ) (t : List Axle) (r : Spaced) : Type 0 where
  pub count : r.count ≡ length t
  pub reach : r.length ≡ train_length t / h
  pub load : (i : ℕ) → i < length t → (axle_at r.axles i).load ≡ (axle_at t i).load
  pub at : (i : ℕ) → i < length t → (axle_at r.axles i).at ≡ distance way t i / h

-- what the sums need of a train one way round
pub record SpacedFits (r : Spaced) : Type 0 where
  pub few : r.count ≤ 12
  pub short : r.length ≤ 500
  pub load : (i : ℕ) → i < r.count → (axle_at r.axles i).load ≤ 400
  pub at : (i : ℕ) → i < r.count → (axle_at r.axles i).at ≤ r.length

-- the ordinate at an end, 0 left or 1 right, of piece x less so many; 0 off the line
abbrev pub end_ordinate : List ℕ → (n less x end : ℕ) → ℤ
end_ordinate s n less x end = if leb less x && ltb (x - less) n then word_at s (size Line * (x - less) + end) else pos 0

-- what the first c axles count at an end of run m
unfoldable pub run_sum : Mode → Question → List ℕ → (n : ℕ) → Spaced → (m end c : ℕ) → ℤ
run_sum mode q s n r m end c = sum_to c (λ i. pos (axle_at r.axles i).load *ℤ counted mode q (end_ordinate s n r.length (m + (axle_at r.axles i).at) end))

-- the best of places 0 .. m, where place p counts f p
pub record BestOf (q : Question) (f : ℕ → ℤ) (m : ℕ) (b : Best) : Type 0 where
  pub value : b.value ≡ extreme q m f
  pub gives : f b.place ≡ b.value
  pub late : b.place ≤ m
  pub near : Within train_most b.value

-- a train's effect at place p
abbrev pub at_place : Mode → Question → InfluenceLine → List Axle → Way → ℕ → ℤ
at_place mode q line t way p = train_effect mode q line t 1 way (train_station line t (p / 2)) (side_at p)
