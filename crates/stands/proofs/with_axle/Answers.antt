use native.Mathlib.Omega.{arith}
use Rattle.stands.proofs.EndOrdinates.{end_before, end_past, adds_nothing}
use Rattle.stands.proofs.with_axle.Goals as goal
use Rattle.stands.proofs.with_axle.Goals.{then-x-less-via-then-x-less, then-x-less-via-else-x-less+then-n-x}

-- off the line nothing is added
pub returns-then-x-less : goal.returns-then-x-less
returns-then-x-less c q =
    let a = c.args in
    elim c.then-x-less.branch [
      | then-x-less-via-then-x-less w ↦ (adds_nothing a.mode q a.load _ (end_before a.line.now a.n a.less a.x 0 (omega arith)), adds_nothing a.mode q a.load _ (end_before a.line.now a.n a.less a.x 1 (omega arith)))
      | then-x-less-via-else-x-less+then-n-x w ↦ (adds_nothing a.mode q a.load _ (end_past a.line.now a.n a.less a.x 0 (omega arith) (omega arith)), adds_nothing a.mode q a.load _ (end_past a.line.now a.n a.less a.x 1 (omega arith) (omega arith)))
    ]
