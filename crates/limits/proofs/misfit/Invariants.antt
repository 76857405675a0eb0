use Prim.Native.Nat.{◌-◌}
use Rattle.words.specs.Fields.{item_misfit}
use Rattle.model.specs.Format.{format}
use Rattle.limits.proofs.Scans.{Searched}
use Rattle.limits.proofs.misfit.Given as goal

abbrev pub invariant-loop-i : goal.invariant-loop-i
invariant-loop-i l = Searched (item_misfit (format l.head l.part).fields l.s) (format l.head l.part).items l.i

abbrev pub decreases-loop-i : goal.decreases-loop-i
decreases-loop-i l = l.i-end - l.i
