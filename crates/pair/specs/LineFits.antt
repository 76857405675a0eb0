-- What the line code asks of a line section `s`: its words are there and within their limits.
use Rattle.std.specs.Prelude.{ℕ, ◌+◌, ◌*◌, ◌≤◌, ◌<◌, List, length}
use Rattle.exact.specs.Bounds.{Within}
use Rattle.model.specs.Format.{size, bytes}
use Rattle.model.specs.declared.Part.TheVariants.{Line}
use Rattle.magnitudes.specs.Magnitudes.{pieces_most, ordinate_most}
use Rattle.words.specs.Words.{word_at}

-- word k is there and within its limits
pub record WordFits (s : List ℕ) (k : ℕ) : Type 0 where
  pub room : 4 * k + 4 ≤ length s
  pub near : Within ordinate_most (word_at s k)

-- the words of n pieces are there and within their limits
pub record LineFits (s : List ℕ) (n : ℕ) : Type 0 where
  pub room : bytes Line * n ≤ length s
  pub few : n ≤ pieces_most
  pub near : (k : ℕ) → k < size Line * n → Within ordinate_most (word_at s k)
