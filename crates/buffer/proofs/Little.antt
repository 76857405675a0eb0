-- A number is read back from its bytes.
use mathlib.Core.Path.{◌≡◌}
use mathlib.Core.List.{List, ◌++◌}
use Prim.Native.Nat.{ℕ, zero, suc, ◌*◌, ◌/◌, ◌^◌, ◌<◌}
use native.Mathlib.Nat.{pow-succ'}
use native.Mathlib.Omega.{arith}
use Rattle.buffer.specs.Stored.{little_endian, from_little_endian}

pub little_read : (k x : ℕ) (rest : List ℕ) → x < 256 ^ k → from_little_endian k (little_endian k x ++ rest) ≡ x
little_read zero x rest h = omega arith
little_read (suc k) x rest h =
    let p : 256 ^ suc k ≡ 256 * 256 ^ k = pow-succ' 256 k in
    let e = little_read k (x / 256) rest (omega arith) in
    omega arith
