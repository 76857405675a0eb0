-- What the call for a train ensures: one refusal, or the report of a rating that is right.
use Rattle.std.specs.Prelude.{ℕ, ◌≡◌, List, ◌++◌, length, drop, Option, None, Some}
use Rattle.numbers.specs.NumberBytes.{numbers_bytes, ReadBack}
use Rattle.model.specs.{Decode.influence_line, declared.Refusal.Refusal, Refusals.packed, Trains.TrainCall, Trains.mode_of, Trains.report_size, Trains.RatingRight, Trains.train_verdict, declared.Rating.Rating}
use Rattle.buffer.specs.Stored.{cleared}
use Rattle.reports.specs.ReportNumbers.{report_numbers}

-- a verdict as the call's result
abbrev pub result_of : Option Refusal → ℕ
result_of None = packed 0 0
result_of (Some r) = packed r.number r.place

-- the call's arguments, the report buffer before, the result, and the buffer after
pub data Rated (c : TrainCall) (before : List ℕ) (result : ℕ) (after : List ℕ) : Type 0 where
  -- a refusal: the report is zero, bytes past it as before
  refused : (r : Refusal) → train_verdict c (length before) ≡ Some r → result ≡ result_of (Some r) → after ≡ cleared report_size before → Rated c before result after
  -- else a rating that is right, its numbers in front, bytes past them as before; and the host reads these numbers
  rated : train_verdict c (length before) ≡ None → (r : Rating) → RatingRight (mode_of c.mode) (influence_line c.section c.h c.pieces) c.train r → result ≡ result_of None →
      after ≡ numbers_bytes (report_numbers r) ++ drop report_size before → ReadBack after (report_numbers r) → Rated c before result after
