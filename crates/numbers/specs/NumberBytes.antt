-- Numbers as bytes, eight each, one after the other.
use Rattle.std.specs.Prelude.{◌≡◌, ℕ, ◌+◌, ◌*◌, ◌<◌, List, [], ◌∷◌, ◌++◌, ℤ, pos, length, get_or, drop}
use Rattle.std.specs.Int.{w64}
use Rattle.std.proofs.Common.{SFits, to_z, of_z}
use Rattle.buffer.specs.Stored.{little_endian, from_little_endian, Puts}
use Rattle.buffer.specs.declared.Cursor.{Cursor}

-- the eight bytes of a number in two's complement, lowest first
abbrev pub number_bytes : ℤ → List ℕ
number_bytes z = little_endian 8 (of_z w64 z)

-- the bytes of numbers one after the other
unfoldable pub numbers_bytes : List ℤ → List ℕ
numbers_bytes [] = []
numbers_bytes (z ∷ zs) = number_bytes z ++ numbers_bytes zs

-- numbers that 64 bits hold
abbrev pub AllFit : List ℤ → Type 0
AllFit [] = Unit {0}
AllFit (z ∷ zs) = SFits w64 z × AllFit zs

-- the number that the first eight bytes of a string stand for
abbrev pub number_of : List ℕ → ℤ
number_of s = to_z w64 (from_little_endian 8 s)

-- what a host reads in the bytes of numbers one after the other are these numbers
abbrev pub ReadBack : (bytes : List ℕ) → List ℤ → Type 0
ReadBack bytes numbers = (k : ℕ) → k < length numbers → number_of (drop (8 * k) bytes) ≡ get_or numbers k (pos 0)

-- a cursor before and after numbers that 64 bits hold were put
pub record Written (before : Cursor) (numbers : List ℤ) (after : Cursor) : Type 0 where
  pub ends : after.at ≡ before.at + 8 * length numbers
  pub bytes : Puts before (numbers_bytes numbers) after
  pub fit : AllFit numbers
