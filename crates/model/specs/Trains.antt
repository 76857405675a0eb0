-- "Rating trucks" of document 02: a train of axles on the line alone. Loads are in kN, distances in dm, effects in kN·U.
use Rattle.std.specs.Prelude.{ℕ, zero, suc, ◌+◌, ◌-◌, ◌*◌, ◌/◌, ◌%◌, ◌<◌, if◌then◌else◌, Option, Some}
use mathlib.Core.{Path.◌≡◌, Bool.Bool, Bool.◌&&◌, List.List, List.[], List.◌∷◌}
use lib.{IntN.ℤ, IntN.pos, IntN.neg_ℤ, IntN.◌+ℤ◌, IntN.◌-ℤ◌, IntN.◌*ℤ◌, Signed.◌≤ℤ◌, ListN.length, ListN.get_or, Dec.leb, Dec.eqb}
use Rattle.exact.specs.{Ranges.sum_to, Questions.better, Questions.extreme, Questions.NoBetter, declared.Question.Question, declared.Question.TheVariants.Greatest, declared.Question.TheVariants.Least}
use Rattle.words.specs.Fields.{admits, first_answer, misfit}
use Rattle.model.specs.Job.{InfluenceLine}
use Rattle.model.specs.Format.{bytes, piece_length, piece_count, line_layout, ordinate_limit}
use Rattle.model.specs.Refusals.{Test, unless, signs, ◌finds◌, first_refusal}
use Rattle.model.specs.declared.Refusal.{Refusal}
use Rattle.model.specs.Line.{ordinate}
use Rattle.model.specs.declared.{Edition.TheVariants.First, Part.TheVariants.Line, Side.Side, Side.TheVariants.Left, Side.TheVariants.Right, Axle.Axle, Way.Way, Way.TheVariants.AsGiven, Way.TheVariants.Turned, Mode.Mode, Mode.TheVariants.AllAxles, Mode.TheVariants.NoRelief, TrainExtreme.TrainExtreme, Rating.Rating}

-- ---- a train on a line

-- axle i, from 0
abbrev pub axle_at : List Axle → ℕ → Axle
axle_at t i = get_or t i (record { load = 0; at = 0 })

-- the train's length: the last axle's distance from the first
abbrev pub train_length : List Axle → ℕ
train_length t = (axle_at t (length t - 1)).at

-- axle i's distance from the leftmost axle: counted from the first as given, from the last turned
abbrev pub distance : Way → List Axle → ℕ → ℕ
distance AsGiven t i = (axle_at t i).at
distance Turned t i = train_length t - (axle_at t i).at

-- what an axle counts of its ordinate: all of it; or nothing where it relieves, below 0 for greatest and above for least (house rule after 3.2.6)
abbrev pub counted : Mode → Question → ℤ → ℤ
counted AllAxles q y = y
counted NoRelief q y = better q y (pos 0)

-- a train's effect, times k: its leftmost axle z k-ths of a piece from the line's left end, all axles on one side; each axle's load times what it counts, its distance being whole pieces
unfoldable pub train_effect : Mode → Question → InfluenceLine → List Axle → (k : ℕ) → Way → (z : ℤ) → Side → ℤ
train_effect mode q line t k way z side =
    sum_to (length t) (λ i. pos (axle_at t i).load *ℤ counted mode q (ordinate line k (z +ℤ pos (k * (distance way t i / line.h))) side))

-- station s of those where the train touches the line or just leaves it: from the train's length before its left end to its right end
abbrev pub train_station : InfluenceLine → List Axle → ℕ → ℤ
train_station line t s = pos s -ℤ pos (train_length t / line.h)

-- the best effect one way round: over these stations and both sides
unfoldable pub best_one_way : Mode → Question → InfluenceLine → List Axle → Way → ℤ
best_one_way mode q line t way =
    extreme q (line.pieces + train_length t / line.h) (λ s. better q (train_effect mode q line t 1 way (train_station line t s) Left) (train_effect mode q line t 1 way (train_station line t s) Right))

-- the best effect over both ways round
unfoldable pub best_train : Mode → Question → InfluenceLine → List Axle → ℤ
best_train mode q line t = better q (best_one_way mode q line t AsGiven) (best_one_way mode q line t Turned)

-- ---- what is reported

-- a reported effect is right
pub record ExtremeRight (mode : Mode) (q : Question) (line : InfluenceLine) (t : List Axle) (x : TrainExtreme) : Type 0 where
  -- it is the best at the stations
  pub value : x.value ≡ best_train mode q line t
  -- no stand on k-ths of a piece beats it, either way round, on either side, on the line or off
  pub unbeaten : (k : ℕ) (way : Way) (z : ℤ) (side : Side) → zero < k → NoBetter q (train_effect mode q line t k way z side) (pos k *ℤ x.value)
  -- its stand gives it exactly, from the train's length before the line to the line's right end
  pub gives : train_effect mode q line t 1 x.way x.station x.side ≡ x.value
  pub first : neg_ℤ (pos (train_length t / line.h)) ≤ℤ x.station
  pub last : x.station ≤ℤ pos line.pieces

-- a question's effect
abbrev pub extreme_in : Question → Rating → TrainExtreme
extreme_in Greatest r = r.greatest
extreme_in Least r = r.least

-- a rating is right: both effects of one mode, and their difference
pub record RatingRight (mode : Mode) (line : InfluenceLine) (t : List Axle) (r : Rating) : Type 0 where
  pub extremes : (q : Question) → ExtremeRight mode q line t (extreme_in q r)
  pub difference : r.difference ≡ r.greatest.value -ℤ r.least.value

-- ---- the call

-- what a call for a train is given: h and N, the line's section, the train and the mode
pub record TrainCall : Type 0 where
  pub h : ℕ
  pub pieces : ℕ
  pub section : List ℕ
  pub train : List Axle
  pub mode : ℕ

-- 1 all axles, 2 without those that relieve
abbrev pub mode_of : ℕ → Mode
mode_of m = if eqb m 1 then AllAxles else NoRelief

-- how many numbers a report has
abbrev pub report_count : ℕ
report_count = 9

-- how many bytes
abbrev pub report_size : ℕ
report_size = 8 * report_count

-- h and N within their limits, a section of 2 N words, a mode 1 or 2, and room for the report in a buffer of so many bytes
unfoldable pub arguments_fit : (h pieces section mode room : ℕ) → Bool
arguments_fit h pieces section mode room =
    admits piece_length (pos h) && admits (piece_count (pos h)) (pos pieces) && eqb section (bytes Line * pieces) && (leb 1 mode && leb mode 2) && leb report_size room

-- the first axle is at 0, and none before the one before it
abbrev pub in_order : List Axle → ℕ → Bool
in_order t zero = eqb (axle_at t zero).at 0
in_order t (suc i) = leb (axle_at t i).at (axle_at t (suc i)).at

-- axle i within its limits: a load of 1 to 400 kN; a distance of at most 500 dm, in order, that h divides
unfoldable pub axle_fits : (h : ℕ) → List Axle → ℕ → Bool
axle_fits h t i = leb 1 (axle_at t i).load && leb (axle_at t i).load 400 && leb (axle_at t i).at 500 && in_order t i && eqb ((axle_at t i).at % h) 0

-- 10: the number of axles is not from 1 to 12, place 0; else the first axle outside its limits, from 1
unfoldable pub train_fault : (h : ℕ) → List Axle → Option ℕ
train_fault h t = if leb 1 (length t) && leb (length t) 12 then first_answer 0 (length t) (λ i. unless (axle_fits h t i) (suc i)) else Some 0

-- the tests of a call with a report buffer of so many bytes, in the order in which they run: 2 for an argument outside its limits, 4 and 5 by the line's own words, then 10
unfoldable pub train_tests : TrainCall → (room : ℕ) → List Test
train_tests c room =
    (2 finds unless (arguments_fit c.h c.pieces (length c.section) c.mode room) 0)
    ∷ (4 finds misfit (line_layout (ordinate_limit First) c.pieces) c.section)
    ∷ (5 finds misfit (signs c.pieces) c.section)
    ∷ (10 finds train_fault c.h c.train)
    ∷ []

-- the verdict on such a call
unfoldable pub train_verdict : TrainCall → (room : ℕ) → Option Refusal
train_verdict c room = first_refusal (train_tests c room)
