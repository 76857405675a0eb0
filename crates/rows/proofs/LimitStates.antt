-- From what is found of a limit state to the model's: the traffic values are the job's, and the reported placements give them.
use Rattle.std.specs.Prelude.{if◌then◌else◌, Option, None, Some}
use mathlib.Core.Path.{◌≡◌, refl, sym, ◌∙◌, ap, ap₂}
use mathlib.Core.List.{List}
use Prim.Native.Nat.{ℕ, zero, suc}
use lib.IntN.{ℤ, pos, ◌+ℤ◌, ◌*ℤ◌}
use Rattle.exact.specs.Questions.{better, extreme, for_question}
use Rattle.exact.specs.declared.Question.{Question}
use Rattle.exact.specs.declared.Question.TheVariants.{Greatest, Least}
use Rattle.model.specs.Job.{Effect, Limit, Live, HasTraffic, Row, Job}
use Rattle.model.specs.Rows.{row_value, best_chain, best_row, Governs, later_if_better, is_of, governing, state_value}
use Rattle.model.specs.Traffic.{traffic_value}
use Rattle.model.specs.Answered.{omits, traffic_in, reported_effect, GoverningRight, StateRight}
use Rattle.model.specs.declared.Account.{Account}
use Rattle.model.specs.declared.Governing.{Governing}
use Rattle.model.specs.Answers.{State}
use Rattle.model.proofs.Lanes.{Spaced}
use Rattle.model.proofs.LineLimits.{OneSigned}
use Rattle.model.proofs.States.{no_row, governing_row, unbeaten_unladen_lem, unbeaten_laden}
use Rattle.model.proofs.Attained.{counted_given}
use Rattle.rows.specs.Governed.{governs, governed, StateRow, StateFound}

-- a row's best value depends on the traffic of its live kind alone
best_cong : (q : Question) (effect : ℕ → Effect) (s t : Live → ℤ) (row : Row) → s row.live ≡ t row.live → best_row q effect s row ≡ best_row q effect t row
unfolding best_row
best_cong q effect s t row e = ap (λ (z : ℤ). extreme q row.others (λ a. best_chain q effect (row.chain a)) +ℤ better q (pos 0) (pos row.factor *ℤ z)) e

governing_cong : (q : Question) (row : ℕ → Row) (v w : ℕ → ℤ) (limit : Limit) (n : ℕ) → ((r : ℕ) → v r ≡ w r) → governing q row v limit n ≡ governing q row w limit n
unfolding governing
governing_cong q row v w limit zero h = refl
governing_cong q row v w limit (suc n) h =
    ap₂ (λ (o : Option Governs) (z : ℤ). if is_of limit (row (suc n)).limit then later_if_better q o (record { value = z; row = suc n }) else o) (governing_cong q row v w limit n h) (h (suc n))

module _ (job : Job) (patch : List ℕ) (a : Account) (limit : Limit) (signed : OneSigned job.line) (spaced : Spaced job) where
  -- the values in hand are the job's, and the reported placements give them
  pub record Given (q : Question) (traffic : Live → ℤ) : Type 0 where
    pub values : (live : Live) → traffic live ≡ traffic_value q job live
    pub gives : (live : Live) → HasTraffic live → reported_effect q job patch a live (for_question q (traffic_in a live)).placement ≡ traffic_value q job live

  same_value : (q : Question) (traffic : Live → ℤ) → Given q traffic → state_value q job limit ≡ governs q job.effect job.row traffic limit job.rows
  same_value q traffic g = governing_cong q job.row _ _ limit job.rows (λ r. best_cong q job.effect (traffic_value q job) traffic (job.row r) (sym (g.values (job.row r).live)))

  -- a question's row
  row_right : (q : Question) (traffic : Live → ℤ) (x : Governing) → Given q traffic → StateRow q job.effect job.row traffic limit job.rows x → GoverningRight job patch a q limit x
  row_right q traffic x g s =
      let value = same_value q traffic g ∙ s.value in
      let row = job.row x.row in
      record {
        value = value;
        unbeaten_unladen = unbeaten_unladen_lem q job limit (governed x) value;
        unbeaten = unbeaten_laden q job limit (governed x) value signed spaced;
        row_of = (governing_row q job limit (governed x) value).0;
        alternative = s.right.alternative;
        among = s.right.among;
        may_omit = s.right.right.may_omit;
        gives =
            ap (row_value job.effect row s.right.alternative (omits x.omitted))
            (counted_given q job patch a x.unladen row.live (g.gives row.live) ∙ ap (λ (z : ℤ). if x.unladen then pos 0 else z) (sym (g.values row.live)))
            ∙ s.right.right.gives;
        shown = s.right.shown;
        laden = s.right.right.laden;
      }

  -- the state
  pub state_right : (traffic : Question → Live → ℤ) (s : State) → ((q : Question) → Given q (traffic q)) → StateFound job.effect job.row traffic limit job.rows s → StateRight job patch a limit s
  state_right traffic None g f = no_row Greatest job limit (same_value Greatest (traffic Greatest) (g Greatest) ∙ f Greatest)
  state_right traffic (Some x) g f = (row_right Greatest (traffic Greatest) x.greatest (g Greatest) (f Greatest), row_right Least (traffic Least) x.least (g Least) (f Least))
