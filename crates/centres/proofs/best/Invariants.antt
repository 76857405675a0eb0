use Prim.Native.Nat.{◌/◌, ◌<◌}
use Rattle.centres.specs.Candidates.{BestBefore}
use Rattle.centres.proofs.best.Given as goal

abbrev pub invariant-loop-m : goal.invariant-loop-m
invariant-loop-m l = (l.lo / l.d < l.m) × BestBefore l.q l.across l.d l.lo l.hi l.m l.best
