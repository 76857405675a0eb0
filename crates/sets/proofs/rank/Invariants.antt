use mathlib.Core.Path.{◌≡◌}
use Prim.Native.Nat.{◌≤◌}
use Rattle.exact.specs.Ranges.{count_to}
use Rattle.sets.specs.Sets.{value_at, precedes}
use Rattle.sets.proofs.rank.Given as goal

abbrev pub invariant-loop-k : goal.invariant-loop-k
invariant-loop-k l = (l.r ≤ l.k) × (l.r ≡ count_to l.k (λ j. precedes l.q (value_at l.values) j l.i))
