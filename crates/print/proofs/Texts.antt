-- A text at a buffer's start.
use mathlib.Core.Path.{◌≡◌, refl, ap, ◌∙◌}
use mathlib.Core.List.{List, ◌++◌}
use Prim.Native.Nat.{ℕ, ◌≤◌}
use native.Mathlib.Omega.{arith}
use lib.ListN.{length, drop}
use Rattle.buffer.specs.Stored.{Puts}
use Rattle.buffer.specs.declared.Cursor.{Cursor}
use Rattle.buffer.proofs.Stores.{from_start}

-- it is in front, and the rest is as it was
pub at_start : {w v : Cursor} {xs : List ℕ} → Puts w xs v → w.at ≡ 0 → v.at ≤ length w.out.now → v.out.now ≡ xs ++ drop v.at w.out.now
at_start {w} {v} {xs} h start room =
    let end : length xs ≡ v.at = omega (arith, start, h.stored.ends) in
    from_start h start (omega (arith, room, end)) refl ∙ ap (λ (k : ℕ). xs ++ drop k w.out.now) end
