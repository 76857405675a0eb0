-- A part of a buffer written over.
use mathlib.Core.Path.{◌≡◌, refl, ap, ◌∙◌}
use mathlib.Core.List.{List, append_assoc}
use Prim.Native.Nat.{ℕ, ◌+◌, ◌-◌, ◌≤◌}
use native.Mathlib.Omega.{arith}
use borrow.Rule.Slice.PartMut.{put_mid}
use lib.ListN.{length, take, drop, replicate, length-replicate, length-drop}
use lib.Seq.{sets-eq, drop-drop, length-take-le}
use Rattle.buffer.specs.Stored.{Stored}

-- a buffer after n bytes from `at` on were written over
pub part : {s cs bs : List ℕ} {at n : ℕ} → cs ≡ bs → length bs ≡ n → at + n ≤ length s → Stored s at bs (put_mid at (at + n - at) s cs) (at + n)
part {s} {cs} {bs} {at} {n} e size room =
    let k : at + n - at ≡ length bs = omega arith in
    record { ends = omega arith; is = rw (e, k, sets-eq bs s at (omega arith), drop-drop, append_assoc) refl }

-- and where those are zeros
pub part_zeros : {s cs : List ℕ} {at : ℕ} (n : ℕ) → cs ≡ replicate (length (take (at + n - at) (drop at s))) 0 → at + n ≤ length s → Stored s at (replicate n 0) (put_mid at (at + n - at) s cs) (at + n)
part_zeros {s} {cs} {at} n e room =
    let k : length (take (at + n - at) (drop at s)) ≡ n = length-take-le (at + n - at) (drop at s) (simp length-drop (omega arith)) ∙ omega arith in
    part (e ∙ ap (λ (m : ℕ). replicate m 0) k) (length-replicate {A = ℕ} n 0) room
