use mathlib.Core.Path.{◌≡◌}
use mathlib.Core.List.{List}
use Prim.Native.Nat.{ℕ, ◌+◌, ◌≤◌}
use lib.ListN.{length}
use Rattle.tables.specs.ChainsRead.{terms_in}
use Rattle.tables.proofs.Later.{later}
use Rattle.tables.proofs.count.Given as goal

-- counted so far, and left
pub record Counted (factors : List ℕ) (j k : ℕ) : Type 0 where
  pub few : k ≤ j
  pub left : k + length (later factors (length factors) j) ≡ length (terms_in factors (length factors))

abbrev pub invariant-loop-factor : goal.invariant-loop-factor
invariant-loop-factor l = Counted l.factors l.factor-index l.k
