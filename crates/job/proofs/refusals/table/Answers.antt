use mathlib.Core.Path.{◌∙◌}
use borrow.Author.Rules.{rules}
use Rattle.model.specs.Format.{fault, header_of}
use Rattle.model.specs.Refusals.{fault6}
use Rattle.model.specs.declared.Part.TheVariants.{Effects, Rows, Records}
use Rattle.job.proofs.Faults.{asked_next, three_parts}
use Rattle.job.proofs.refusals.table.Goals as goal

pub returns : goal.returns
unfolding fault6
returns c =
    let f = fault c.args.s.now (header_of c.args.s.now) in
    asked_next _ (f Records) (asked_next _ (f Rows) c.fault.ensures c.or_else.ensures (search rules)) c.or_else-2.ensures (search rules) ∙ three_parts (f Effects) (f Rows) (f Records)
