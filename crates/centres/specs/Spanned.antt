-- What lies across the line of a job.
use Rattle.std.specs.Prelude.{ℕ, ◌<◌, ◌≡◌, get_or}
use Rattle.model.specs.Job.{Job}
use Rattle.model.specs.Lanes.{lanes_of, second_lanes, lanes, deck_of, number_on, unit, sum_unit}
use Rattle.centres.specs.Spans.{SpanRight, no_span}
use Rattle.centres.specs.declared.across.Across.{Across}

-- what lies across is a job's
pub record Spanned (job : Job) (a : Across) : Type 0 where
  pub first : a.first ≡ lanes_of job.deck
  pub second : a.second ≡ second_lanes job
  pub lanes : a.lanes ≡ lanes job
  pub denominator : a.denominator ≡ sum_unit job (unit job)
  pub spaced : (0 < job.deck.g) × (0 < job.second.g)
  pub each : (i : ℕ) → i < a.lanes → SpanRight (deck_of job i) (number_on job i) (get_or a.spans i no_span)
