-- The traffic values that are handed on in a struct are read back as they were.
use mathlib.Core.Path.{◌≡◌, ap₂}
use lib.Dec.{lit<}
use lib.IntN.{ℤ}
use mir.Syntax.{w64}
use mir.Val.{to_z, of_z}
use Rattle.exact.specs.Bounds.{Within}
use Rattle.exact.proofs.Held.{known, told}
use Rattle.magnitudes.specs.Magnitudes.{traffic_most}
use Rattle.exact.specs.declared.ByQuestion.{ByQuestion}
use Rattle.model.specs.declared.ByLive.{ByLive}

-- a number near enough, read back
back : {z : ℤ} → Within traffic_most z → to_z w64 (of_z w64 z) ≡ z
back n = (known w64 n (lit< tt)).is

pub near_back : {z : ℤ} → Within traffic_most z → Within traffic_most (to_z w64 (of_z w64 z))
near_back n = (told (known w64 n (lit< tt))).1

abbrev pub pair_of : ℤ → ℤ → ByLive ℤ
pair_of x y = record { normal = x; overload = y }

abbrev pub live_of : ByLive ℤ → ByLive ℤ → ByQuestion (ByLive ℤ)
live_of g l = record { greatest = g; least = l }

pair_back : {x y : ℤ} → Within traffic_most x → Within traffic_most y → pair_of (to_z w64 (of_z w64 x)) (to_z w64 (of_z w64 y)) ≡ pair_of x y
pair_back m n = ap₂ pair_of (back m) (back n)

pub live_back : {x y v w : ℤ} → Within traffic_most x → Within traffic_most y → Within traffic_most v → Within traffic_most w →
    live_of (pair_of (to_z w64 (of_z w64 x)) (to_z w64 (of_z w64 y))) (pair_of (to_z w64 (of_z w64 v)) (to_z w64 (of_z w64 w))) ≡ live_of (pair_of x y) (pair_of v w)
live_back a b c d = ap₂ live_of (pair_back a b) (pair_back c d)
