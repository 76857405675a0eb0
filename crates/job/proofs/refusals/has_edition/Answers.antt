use mathlib.Core.Path.{◌∙◌, ap₂}
use mir.Syntax.{w64}
use native.Mathlib.Omega.{arith}
use lib.Dec.{leb}
use Rattle.exact.proofs.Held.{back}
use Rattle.job.proofs.Frames.{edition_there}
use Rattle.job.proofs.refusals.has_edition.Goals as goal

pub returns-in-Ok : goal.returns-in-Ok
returns-in-Ok c =
    ap₂ leb (omega (arith, c.size.ensures.1)) (omega arith)
    ∙ edition_there c.args.s.now (back w64 c.word.type_inv c.word.ensures.0) c.in-Ok.ensures c.size.ensures.0
