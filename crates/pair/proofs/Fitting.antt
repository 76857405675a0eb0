-- A line that fits has words that fit, and these can be read in 16 bits.
use Prim.Native.Nat.{ℕ, ◌+◌, ◌*◌, ◌≤◌, ◌<◌}
use mathlib.Core.List.{List}
use native.Mathlib.Omega.{arith}
use lib.Dec.{lit≤}
use lib.ListN.{length}
use Rattle.exact.specs.Bounds.{Within}
use Rattle.exact.proofs.Bounds.{within_le}
use Rattle.words.specs.Words.{word_at}
use Rattle.model.specs.Format.{size}
use Rattle.model.specs.declared.Part.TheVariants.{Line}
use Rattle.pair.specs.LineFits.{WordFits, LineFits}

pub line_word : {s : List ℕ} {n : ℕ} → LineFits s n → (k : ℕ) → k < size Line * n → WordFits s k
line_word f k l = record { room = omega (arith, f.room); near = f.near k l }

pub word_narrow : {s : List ℕ} {k : ℕ} → WordFits s k → (4 * k + 4 ≤ length s) × Within 32767 (word_at s k)
word_narrow f = (f.room, within_le f.near (lit≤ tt))
