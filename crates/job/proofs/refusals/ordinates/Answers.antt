use mathlib.Core.Path.{◌∙◌}
use borrow.Author.Rules.{rules}
use Rattle.model.specs.Format.{fault, header_of}
use Rattle.model.specs.Refusals.{fault4}
use Rattle.model.specs.declared.Part.TheVariants.{Line, Transverse, SecondTransverse}
use Rattle.job.proofs.Faults.{asked_next, three_parts}
use Rattle.job.proofs.refusals.ordinates.Goals as goal

pub returns : goal.returns
unfolding fault4
returns c =
    let f = fault c.args.s.now (header_of c.args.s.now) in
    asked_next _ (f SecondTransverse) (asked_next _ (f Transverse) c.line.ensures c.or_else.ensures (search rules)) c.or_else-2.ensures (search rules) ∙ three_parts (f Line) (f Transverse) (f SecondTransverse)
