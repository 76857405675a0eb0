-- The parts of an account, each right by itself: what the account's own functions ensure. The call's contract is `Answered` (model).
use Rattle.std.specs.Prelude.{◌≡◌, List, ℕ, ℤ, None}
use Rattle.exact.specs.Bounds.{Within}
use Rattle.exact.specs.Questions.{for_question}
use Rattle.exact.specs.declared.ByQuestion.{ByQuestion}
use Rattle.exact.specs.declared.Question.{Question}
use Rattle.exact.specs.declared.Question.TheVariants.{Greatest, Least}
use Rattle.magnitudes.specs.Magnitudes.{traffic_most}
use Rattle.model.specs.Job.{Job, Limit, Live, HasTraffic}
use Rattle.model.specs.Format.{header_of}
use Rattle.model.specs.Refusals.{job_verdict}
use Rattle.model.specs.Lanes.{lanes_of, second_lanes}
use Rattle.model.specs.RecordsWalked.{records_walked}
use Rattle.model.specs.Answered.{position_of, traffic_in, state_in, PositionRight}
use Rattle.model.specs.Answers.{Traffic, State}
use Rattle.model.specs.declared.ByLive.{ByLive}
use Rattle.model.specs.declared.Sense.{Sense}
use Rattle.model.specs.declared.Account.{Account}
use Rattle.model.specs.declared.Header.{Header}
use Rattle.lanes.specs.Loadings.{TrafficPlaced}
use Rattle.rows.specs.Governed.{traffic_of, StateFound}

-- the job is accepted, and the header is its own
pub record Ready (b : List ℕ) (head : Header) : Type 0 where
  pub own : head ≡ header_of b
  pub accepted : job_verdict b ≡ None

-- a live kind's two values, near enough to go on into the rows
pub record TrafficFound (job : Job) (live : Live) (t : Traffic) : Type 0 where
  pub placed : (q : Question) → TrafficPlaced q job live (for_question q t)
  pub near : (q : Question) → Within traffic_most (for_question q t).value

-- a question's reported traffic values
abbrev pub reported_values : Question → Account → ByLive ℤ
reported_values q a = record { normal = (for_question q a.normal).value; overload = (for_question q a.overload).value }

-- the reported traffic values of both questions
abbrev pub reported_live : Account → ByQuestion (ByLive ℤ)
reported_live a = record { greatest = reported_values Greatest a; least = reported_values Least a }

-- a limit state as found among the job's rows, with these traffic values
abbrev pub StateOf : Job → Account → Limit → State → Type 0
StateOf job a limit s = StateFound job.effect job.row (traffic_of (reported_live a)) limit job.rows s

-- the parts of an account, each right by itself
pub record PartsRight (job : Job) (a : Account) : Type 0 where
  pub traffic : (q : Question) (live : Live) → HasTraffic live → TrafficPlaced q job live (for_question q (traffic_in a live))
  pub positions : (sense : Sense) → PositionRight job.line sense (position_of a sense)
  pub states : (limit : Limit) → StateOf job a limit (state_in a limit)
  pub first_count : a.first ≡ lanes_of job.deck
  pub second_count : a.second ≡ second_lanes job
  pub walked : a.walked ≡ records_walked job
