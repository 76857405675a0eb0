-- A line that fits has pieces that fit, and its loads are within their bounds.
use Prim.Native.Nat.{ℕ, ◌*◌, ◌≤◌, ◌<◌}
use mathlib.Core.List.{List}
use native.Mathlib.Omega.{arith}
use lib.Dec.{lit≤}
use Rattle.exact.proofs.Bounds.{within_le}
use Rattle.pair.specs.LineFits.{LineFits}
use Rattle.line.specs.PieceFits.{PieceFits}

pub fits_piece : {s : List ℕ} {n : ℕ} → LineFits s n → (i : ℕ) → i < n → PieceFits s i
fits_piece f i h = record { room = omega (arith, f.room); near = λ k a b. within_le (f.near k (omega arith)) (lit≤ tt) }

-- fewer pieces fit too
pub fits_fewer : {s : List ℕ} {m n : ℕ} → LineFits s n → m ≤ n → LineFits s m
fits_fewer f h = record { room = omega (arith, f.room); few = omega (arith, f.few); near = λ k l. f.near k (omega arith) }

-- N times h is at most 1000, so h times the sum of N pieces is at most 10000000
pub area_room : (h n : ℕ) → n * h ≤ 1000 → h * (10000 * n) ≤ 10000000
area_room h n l = omega arith
