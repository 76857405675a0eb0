-- The built-in rows of a rural bridge.
use mathlib.Core.Path.{◌≡◌, refl}
use Prim.Native.Nat.{ℕ, ◌-◌}
use lib.ListN.{take, drop}
use Rattle.model.specs.RuralBridges.{groups, row_with_k}

-- k is in no row but one
pub only_one_k : (k j : ℕ) → (take (row_with_k - 1) (groups k) ≡ take (row_with_k - 1) (groups j)) × (drop row_with_k (groups k) ≡ drop row_with_k (groups j))
only_one_k k j = (refl, refl)
