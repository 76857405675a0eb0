use mathlib.Core.Path.{◌∙◌, ap}
use Prim.Native.Nat.{ℕ}
use native.Mathlib.Omega.{arith}
use mir.Syntax.{w32}
use mir.Val.{to_z}
use Rattle.exact.proofs.Held.{back}
use Rattle.words.specs.Words.{signed32, word_at}
use Rattle.words.proofs.Signed.{signed32_is}
use Rattle.words.proofs.word32.Goals as goal

pub returns : goal.returns
unfolding word_at
returns c = back w32 c.cast_signed.type_inv (c.cast_signed.ensures ∙ ap (λ (n : ℕ). to_z w32 n) (omega arith) ∙ signed32_is c.bits_at.result c.bits_at.type_inv ∙ ap signed32 c.bits_at.ensures)
