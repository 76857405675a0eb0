use Rattle.std.proofs.Common.{◌≡◌}
use lib.ListN.{drop}
use lib.Seq.{sets}
use Rattle.buffer.proofs.copy.Given as goal

-- with the rest put where it is to stand, all is
abbrev pub invariant-loop-i : goal.invariant-loop-i
invariant-loop-i l = sets l.to l.i (drop l.i l.from) ≡ l.from
