use mathlib.Core.Path.{refl}
use mir.Facts.{to_z-of_z}
use Rattle.exact.proofs.Held.{any, le_yes, le_no}
use Rattle.exact.proofs.is_between.Goals as goal

pub returns-then-lo-x : goal.returns-then-lo-x
returns-then-lo-x c =
    let fx = c.ranges.x in
    let fh = c.ranges.hi in
    rw (le_yes (any c.ranges.lo) (any c.ranges.x) c.if-lo-x.true) (simp to_z-of_z)

pub returns : goal.returns
returns c = let s = c in rw (le_no (any s.ranges.lo) (any s.ranges.x) c.if-lo-x.false) refl
