use mathlib.Core.Path.{◌≡◌}
use lib.IntN.{pos}
use Rattle.exact.proofs.Filled.{FilledTo}
use Rattle.lanes.specs.Entries.{chosen_in}
use Rattle.lanes.proofs.entries.values.Given as goal

abbrev pub invariant-loop-i : goal.invariant-loop-i
invariant-loop-i l = FilledTo (λ k x. x ≡ (chosen_in l.q l.across l.e k).value) 10 (pos 0) l.i l.values
