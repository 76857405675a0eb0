use mathlib.Core.Path.{◌≡◌}
use Rattle.exact.specs.Questions.{for_question}
use Rattle.exact.specs.declared.Question.{Question}
use Rattle.stands.specs.Runs.{run_sum}
use Rattle.stands.proofs.run.Given as goal

abbrev pub invariant-loop-axle : goal.invariant-loop-axle
invariant-loop-axle l = (q : Question) → (for_question q l.sum.left ≡ run_sum l.mode q l.line l.n l.train l.m 0 l.axle-index) × (for_question q l.sum.right ≡ run_sum l.mode q l.line l.n l.train l.m 1 l.axle-index)
