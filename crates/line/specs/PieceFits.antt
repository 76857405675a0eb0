-- What the line code asks of a piece in a line section `s`.
use Rattle.std.specs.Prelude.{ℕ, ◌+◌, ◌*◌, ◌≤◌, List, length}
use Rattle.exact.specs.Bounds.{Within}
use Rattle.model.specs.Format.{size, bytes}
use Rattle.model.specs.declared.Part.TheVariants.{Line}
use Rattle.magnitudes.specs.Magnitudes.{ordinate_most}
use Rattle.words.specs.Words.{word_at}

-- piece i's two ordinates are there and within their limits
pub record PieceFits (s : List ℕ) (i : ℕ) : Type 0 where
  pub room : bytes Line * i + bytes Line ≤ length s
  pub near : (k : ℕ) → size Line * i ≤ k → k ≤ size Line * i + 1 → Within ordinate_most (word_at s k)
