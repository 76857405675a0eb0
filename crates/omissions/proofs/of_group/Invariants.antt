use Rattle.exact.specs.Questions.{for_question}
use Rattle.exact.specs.declared.Question.{Question}
use Rattle.model.specs.Format.{kilonewtons}
use Rattle.model.specs.Decode.{effect_at}
use Rattle.groups.specs.FactorLines.{line_factor}
use Rattle.omissions.proofs.Groups.{GroupSofar}
use Rattle.omissions.proofs.of_group.Given as goal

abbrev pub invariant-loop-e : goal.invariant-loop-e
invariant-loop-e l = (q : Question) → GroupSofar q (effect_at kilonewtons l.effects) (line_factor l.line) l.e (for_question q l.best)
