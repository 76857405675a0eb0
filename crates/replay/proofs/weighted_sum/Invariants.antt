use Rattle.std.proofs.Common.{◌*◌, ◌≤◌}
use Rattle.replay.proofs.weighted_sum.Given as goal

-- each byte adds at most 65535 times 255
abbrev pub invariant-loop-i : goal.invariant-loop-i
invariant-loop-i l = l.sum ≤ l.i * 16711425
