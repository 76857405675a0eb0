use mathlib.Core.Path.{◌≡◌}
use Prim.Native.Nat.{ℕ, ◌+◌, ◌-◌, ◌≤◌, ◌<◌}
use lib.IntN.{ℤ}
use Rattle.pair.specs.PairPlaces.{RanksRight, count_of}
use Rattle.pair.proofs.stretch.Given as goal

abbrev pub invariant-loop-k : goal.invariant-loop-k
invariant-loop-k l = (l.from ≤ l.k) × (l.k ≤ l.to) × ((f : ℕ → ℤ) → ((i : ℕ) → l.from ≤ i → i < l.to → f (i + 1) ≡ count_of l.line l.on i) → RanksRight f l.from l.initial.best → RanksRight f l.k l.best)

abbrev pub decreases-loop-k : goal.decreases-loop-k
decreases-loop-k l = l.to - l.k
