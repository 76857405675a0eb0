use Prim.Native.Nat.{◌-◌, ◌*◌, ◌≤◌}
use lib.ListN.{length}
use Rattle.model.specs.Format.{bytes}
use Rattle.model.specs.declared.Part.TheVariants.{Records}
use Rattle.chains.proofs.Walks.{Walked}
use Rattle.chains.proofs.names_twice.Given as goal

abbrev pub invariant-loop : goal.invariant-loop
invariant-loop l = (l.counter ≤ l.count) × Walked l.records l.c l.counter l.at l.seen × (bytes Records * l.at ≤ length l.records)

abbrev pub decreases-loop : goal.decreases-loop
decreases-loop l = l.count - l.counter
