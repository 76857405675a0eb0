-- Sets of lanes as numbers: past the last lane.
use mathlib.Core.Path.{◌≡◌, refl}
use mathlib.Core.Bool.{false}
use Prim.Native.Nat.{ℕ, ◌^◌, ◌≤◌, ◌<◌}
use native.Mathlib.Nat.{lt_of_lt_of_le, div-eq_of_lt}
use lib.Pow.{pow_mono}
use Rattle.model.specs.Lanes.{bit}

-- a set of n lanes has no lane past the last
pub bit_past : (n set i : ℕ) → set < 2 ^ n → n ≤ i → bit set i ≡ false
bit_past n set i small h = let zero = div-eq_of_lt (lt_of_lt_of_le small (pow_mono {i = n} {j = i} h)) in rw zero refl
