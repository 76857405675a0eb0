-- A signed number's text, by its sign.
use mathlib.Core.Path.{◌≡◌, refl, ap, subst}
use mathlib.Core.Bool.{true, false}
use mathlib.Core.List.{List, ◌++◌}
use Prim.Native.Nat.{ℕ, ◌<◌}
use native.Mathlib.Omega.{arith}
use lib.Dec.{T}
use lib.IntN.{ℤ, pos, negsuc, nat_abs}
use lib.Signed.{lt_z}
use borrow.Author.Tests.{ltb-true}
use mir.Syntax.{w64}
use mir.Val.{SFits, to_z, of_z}
use mir.Facts.{to_z-of_z}
use Rattle.buffer.specs.Stored.{Puts}
use Rattle.buffer.specs.declared.Cursor.{Cursor}
use Rattle.buffer.proofs.Stores.{retold}
use Rattle.decimal.specs.Decimal.{ascii, decimal, signed}

-- the text of a number below 0, and of another
pub signed_below : (z : ℤ) → lt_z z (pos 0) ≡ true → ascii "-" ++ decimal (nat_abs z) ≡ signed z
unfolding signed
signed_below (pos n) t = let h : n < 0 = ltb-true n 0 t in absurd (omega arith)
signed_below (negsuc n) t = refl

pub signed_above : (z : ℤ) → lt_z z (pos 0) ≡ false → decimal (nat_abs z) ≡ signed z
unfolding signed
signed_above (pos n) t = refl
signed_above (negsuc n) t = absurd (subst T t tt)

-- the text of a number that was read back from its bits, after a label
pub signed_kept : {w v : Cursor} {z : ℤ} (label : List ℕ) → SFits w64 z → Puts w (label ++ signed (to_z w64 (of_z w64 z))) v → Puts w (label ++ signed z) v
signed_kept label f h = retold (ap (λ (y : ℤ). label ++ signed y) (to_z-of_z f)) h
