use native.Mathlib.Omega.{arith}
use Rattle.writer.proofs.Fronts.{counts, size_is}
use Rattle.writer.proofs.size.Goals as goal

pub returns : goal.returns
returns c =
    let e = c.start.ensures in
    (omega (arith, e.0, c.requires.1, size_is c.requires.0), omega (arith, e.1, c.requires.2))

pub start-requires : goal.start-requires
start-requires c = counts c.requires.0
