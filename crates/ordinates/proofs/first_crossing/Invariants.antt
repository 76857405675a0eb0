use Prim.Native.Nat.{◌-◌}
use Rattle.model.specs.Refusals.{signs}
use Rattle.words.specs.Fields.{item_misfit}
use Rattle.limits.proofs.Scans.{Searched}
use Rattle.ordinates.proofs.first_crossing.Given as goal

abbrev pub invariant-loop-i : goal.invariant-loop-i
invariant-loop-i l = Searched (item_misfit (signs l.pieces).fields l.s) l.pieces l.i

abbrev pub decreases-loop-i : goal.decreases-loop-i
decreases-loop-i l = l.pieces - l.i
