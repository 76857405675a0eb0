use mathlib.Core.Path.{ap₂}
use Rattle.std.specs.Prelude.{Some}
use Rattle.exact.specs.declared.Question.TheVariants.{Greatest, Least}
use Rattle.model.specs.Answers.{State}
use Rattle.model.specs.declared.Governing.{Governing}
use Rattle.rows.proofs.state.later.Goals as goal

pub returns-in-Some : goal.returns-in-Some
returns-in-Some c =
    let best = c.better_both.ensures in
    let both : (greatest least : Governing) → State = λ greatest least. Some (record { greatest = greatest; least = least }) in
    rw c.in-Some.is (ap₂ both (best Greatest) (best Least))
