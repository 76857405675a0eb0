-- Bytes put into a buffer one after the other.
use Rattle.std.specs.Prelude.{◌≡◌, List, [], ◌∷◌, ◌++◌, ℕ, zero, suc, ◌+◌, ◌*◌, ◌/◌, ◌%◌, ◌≤◌, length, get_or, take, drop, replicate}
use Rattle.std.proofs.lemmas.List.Edits.{sets}
use Rattle.buffer.specs.declared.Cursor.{Cursor}

-- the k lowest bytes of a number, lowest first
abbrev pub little_endian : ℕ → ℕ → List ℕ
little_endian zero x = []
little_endian (suc k) x = x % 256 ∷ little_endian k (x / 256)

-- the number that the first k bytes of a string stand for, lowest first
abbrev pub from_little_endian : ℕ → List ℕ → ℕ
from_little_endian zero s = 0
from_little_endian (suc k) s = get_or s 0 0 + 256 * from_little_endian k (drop 1 s)

-- a buffer before and after bytes were put from `at` to `end`; the rest is as it was
pub record Stored (before : List ℕ) (at : ℕ) (bytes after : List ℕ) (end : ℕ) : Type 0 where
  pub ends : end ≡ at + length bytes
  pub is : after ≡ sets before at bytes

-- a cursor's buffer holds n bytes more
abbrev pub HasRoom : ℕ → Cursor → Type 0
HasRoom n w = w.at + n ≤ length w.out.now

-- a cursor before and after bytes were put: its buffer is the same and keeps its length
pub record Puts (before : Cursor) (bytes : List ℕ) (after : Cursor) : Type 0 where
  pub same : after.out.ghost_name ≡ before.out.ghost_name
  pub long : length after.out.now ≡ length before.out.now
  pub stored : Stored before.out.now before.at bytes after.out.now after.at

-- a buffer with zeros for its first `size` bytes, as far as it has them
abbrev pub cleared : (size : ℕ) → List ℕ → List ℕ
cleared size before = replicate (length (take size before)) 0 ++ drop size before
