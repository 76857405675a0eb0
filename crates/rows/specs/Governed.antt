-- What a row's best value, and a limit state's, come with.
use Rattle.std.specs.Prelude.{ℕ, ◌≤◌, ◌≡◌, Bool, true, false, ℤ, pos, ◌+ℤ◌, ◌*ℤ◌, if◌then◌else◌, Option, None, Some}
use Rattle.exact.specs.Bounds.{Within}
use Rattle.exact.specs.Questions.{better, beats, for_question, better_by}
use Rattle.exact.specs.declared.ByQuestion.{ByQuestion}
use Rattle.exact.specs.declared.Question.{Question}
use Rattle.exact.specs.declared.Question.TheVariants.{Greatest, Least}
use Rattle.magnitudes.specs.Magnitudes.{traffic_most}
use Rattle.model.specs.Job.{Effect, Limit, Live, no_traffic, normal, overload, Row}
use Rattle.model.specs.Rows.{row_value, MayOmit, best_chain, best_row, Governs, governing}
use Rattle.model.specs.Answered.{omits}
use Rattle.model.specs.declared.Governing.{Governing}
use Rattle.model.specs.declared.{ByLive.ByLive, ByLimit.ByLimit}
use Rattle.model.specs.Answers.{State}
use Rattle.omissions.specs.declared.Chained.{Chained}

-- ---- traffic
-- the traffic value of a live kind; without traffic it is 0
abbrev pub live_value : ByLive ℤ → Live → ℤ
live_value v no_traffic = pos 0
live_value v normal = v.normal
live_value v overload = v.overload

-- a question's traffic value of a live kind
abbrev pub traffic_of : ByQuestion (ByLive ℤ) → Question → Live → ℤ
traffic_of v q = live_value (for_question q v)

-- the values of both live kinds are within reach of the arithmetic
abbrev pub PairFits : ByLive ℤ → Type 0
PairFits v = Within traffic_most v.normal × Within traffic_most v.overload

-- the values of both questions are
abbrev pub LiveFits : ByQuestion (ByLive ℤ) → Type 0
LiveFits v = (q : Question) → PairFits (for_question q v)

-- ---- a row
-- row r, which shows k, by its chain and its traffic: the traffic is left out where that is better
abbrev pub laden_row : Question → (r k : ℕ) → Chained → ℤ → Governing
laden_row q r k chain loaded =
    if beats q (pos 0) loaded
    then record { value = chain.value; row = r; omitted = chain.omitted; unladen = true; k = k }
    else record { value = chain.value +ℤ loaded; row = r; omitted = chain.omitted; unladen = false; k = k }

-- a row's value is right by an alternative: it is that one's best, its omissions are allowed and, with the traffic where it counts, give it exactly; where the row has no traffic, none is left out
pub record AlternativeRight (q : Question) (effect : ℕ → Effect) (row : Row) (traffic : Live → ℤ) (alternative : ℕ) (x : Governing) : Type 0 where
  pub value : x.value ≡ best_chain q effect (row.chain alternative) +ℤ better q (pos 0) (pos row.factor *ℤ traffic row.live)
  pub may_omit : MayOmit effect (row.chain alternative) (omits x.omitted)
  pub gives : row_value effect row alternative (omits x.omitted) (if x.unladen then pos 0 else traffic row.live) ≡ x.value
  pub laden : row.live ≡ no_traffic → x.unladen ≡ false

-- a row's value is right: it equals the model's, and is right by one of its alternatives, whose k is shown
pub record RowRight (q : Question) (effect : ℕ → Effect) (row : ℕ → Row) (traffic : Live → ℤ) (x : Governing) : Type 0 where
  pub value : x.value ≡ best_row q effect traffic (row x.row)
  pub alternative : ℕ
  pub among : alternative ≤ (row x.row).others
  pub right : AlternativeRight q effect (row x.row) traffic alternative x
  pub shown : x.k ≡ (row x.row).k alternative

-- ---- the governing rows
-- the best of a state's rows among rows 1 .. n, each at its best
abbrev pub governs : Question → (effect : ℕ → Effect) → (row : ℕ → Row) → (traffic : Live → ℤ) → Limit → ℕ → Option Governs
governs q effect row traffic limit n = governing q row (λ r. best_row q effect traffic (row r)) limit n

-- a reported value with its row
abbrev pub governed : Governing → Governs
governed x = record { value = x.value; row = x.row }

-- the later row if it beats the earlier
abbrev pub better_row : Question → (sofar next : Governing) → Governing
better_row = better_by (λ x. x.value)

-- a state with one row more of it: the later row of each question where it beats the earlier, or where there is none
abbrev pub later_rows : State → ByQuestion Governing → State
later_rows None next = Some next
later_rows (Some sofar) next = Some (record { greatest = better_row Greatest sofar.greatest next.greatest; least = better_row Least sofar.least next.least })

-- with one row more, of the service state or of the ultimate
abbrev pub with_row : Bool → ByLimit State → ByQuestion Governing → ByLimit State
with_row true x next = record { service = later_rows x.service next; ultimate = x.ultimate }
with_row false x next = record { service = x.service; ultimate = later_rows x.ultimate next }

-- ---- the limit states
-- a limit state's value is that of its governing row, and is right
pub record StateRow (q : Question) (effect : ℕ → Effect) (row : ℕ → Row) (traffic : Live → ℤ) (limit : Limit) (n : ℕ) (x : Governing) : Type 0 where
  pub value : governs q effect row traffic limit n ≡ Some (governed x)
  pub right : RowRight q effect row traffic x

-- none where the state has no row, and only there; else the governing row of each question
abbrev pub StateFound : (effect : ℕ → Effect) → (row : ℕ → Row) → (traffic : Question → Live → ℤ) → Limit → ℕ → State → Type 0
StateFound effect row traffic limit n None = (q : Question) → governs q effect row (traffic q) limit n ≡ None
StateFound effect row traffic limit n (Some x) = (q : Question) → StateRow q effect row (traffic q) limit n (for_question q x)
