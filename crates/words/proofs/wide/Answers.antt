use mathlib.Core.Path.{sym, ◌∙◌, ap, ap₂}
use native.Mathlib.Omega.{arith}
use Prim.Native.Nat.{ℕ, ◌^◌}
use lib.Dec.{lit<}
use lib.IntN.{ℤ, pos, ◌+ℤ◌, ◌*ℤ◌}
use mir.Syntax.{w32, w64}
use mir.Val.{SFits, to_z, of_z}
use Rattle.exact.proofs.Bounds.{fits_within}
use Rattle.exact.proofs.Held.{Held, any, nat, lit, does!, does, ok_fits, cast!, cast}
use Rattle.words.specs.Words.{signed32, word_at, unsigned32, wide}
use Rattle.words.proofs.Halves.{high_fits, both_fit, unsigned_is}
use Rattle.words.proofs.wide.Goals as goal

-- the high half as it was read, and in its place
module _ (z : ℤ) (fits : SFits w32 z) where
  high : Held w64 (of_z w64 (to_z w32 (of_z w32 z))) (2 ^ 31) z
  high = cast (any fits) w64 (lit< tt)

  place : Held w64 4294967296 4294967296 (pos 4294967296)
  place = lit w64 4294967296 (lit< tt)

-- with the low half
module _ (c : goal.After-bits_at) where
  abbrev z : ℤ
  z = c.word32.result

  fits : SFits w32 z
  fits = ok_fits w32 z c.word32.type_inv

  raised : Held w64 (of_z w64 (to_z w64 (of_z w64 (to_z w32 (of_z w32 z))) *ℤ to_z w64 4294967296)) (2 ^ 63) (z *ℤ pos 4294967296)
  raised = does (high z fits) (place z fits) ◌*ℤ◌ (high_fits fits) (fits_within (high_fits fits))

  low : Held w64 c.bits_at.result (2 ^ 32) (pos c.bits_at.result)
  low = nat w64 (2 ^ 32) (omega (arith, c.bits_at.type_inv)) (omega (arith, c.bits_at.type_inv))

  whole : SFits w64 (z *ℤ pos 4294967296 +ℤ pos c.bits_at.result)
  whole = both_fit fits c.bits_at.type_inv

pub returns : goal.returns
unfolding wide word_at
returns c =
    (does (raised c) (low c) ◌+ℤ◌ (whole c) (fits_within (whole c))).is
    ∙ ap₂ (λ (high low : ℤ). high *ℤ pos 4294967296 +ℤ low) c.word32.ensures (sym (unsigned_is c.bits_at.result c.bits_at.type_inv) ∙ ap (λ (u : ℕ). unsigned32 (signed32 u)) c.bits_at.ensures)

pub overflow_cast-result : goal.overflow_cast-result
overflow_cast-result c = cast! (any (ok_fits w32 c.word32.result c.word32.type_inv)) w64 (lit< tt)

pub overflow_mul-result : goal.overflow_mul-result
overflow_mul-result c =
    let fits = ok_fits w32 c.word32.result c.word32.type_inv in
    does! (high _ fits) (place _ fits) ◌*ℤ◌ (high_fits fits)

pub overflow_add-result : goal.overflow_add-result
overflow_add-result c = does! (raised c) (low c) ◌+ℤ◌ (whole c)
