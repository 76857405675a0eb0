use mathlib.Core.Path.{sym, ◌∙◌, ap}
use mathlib.Core.Bool.{not}
use Rattle.job.specs.declared.defects.Defect.{Defect}
use Rattle.job.specs.Defects.{is_defective}
use Rattle.chains.proofs.Walks.{stays}
use Rattle.job.proofs.Linked.{returns_test}
use Rattle.job.proofs.defects.is_defective.Goals as goal

pub returns-in-Return : goal.returns-in-Return
returns-in-Return c =
    let a = c.args in
    ap not c.ends.ensures ∙ sym (returns_test _ _ _ (stays c.requires.0 c.requires.2 c.requires.3))
    ∙ ap (λ (d : Defect). is_defective d a.records.now a.count a.first) (sym c.in-Return.is)
