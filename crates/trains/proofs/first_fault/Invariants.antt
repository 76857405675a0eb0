use Prim.Native.Nat.{suc}
use lib.ListN.{length}
use Rattle.model.specs.Refusals.{unless}
use Rattle.model.specs.Trains.{axle_fits}
use Rattle.limits.proofs.Scans.{Searched}
use Rattle.trains.proofs.first_fault.Given as goal

abbrev pub invariant-loop-i : goal.invariant-loop-i
invariant-loop-i l = Searched (λ k. unless (axle_fits l.h l.train k) (suc k)) (length l.train) l.i
