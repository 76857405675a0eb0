use mathlib.Core.Path.{◌≡◌}
use Rattle.exact.proofs.Filled.{FilledTo}
use Rattle.sets.specs.Sets.{value_at, rank}
use Rattle.sets.proofs.ranks.Given as goal

abbrev pub invariant-loop-i : goal.invariant-loop-i
invariant-loop-i l = FilledTo (λ k x. x ≡ rank l.q l.n (value_at l.values) k) 10 0 l.i l.all
