-- What a transverse section is like where its job is accepted.
use Rattle.std.specs.Prelude.{ℕ, ◌+◌, ◌*◌, ◌≤◌, List, length}
use Rattle.exact.specs.Bounds.{Within}
use Rattle.words.specs.Words.{word_at}
use Rattle.model.specs.Format.{spaces}

-- width and spacing are within their limits, and the section has its M + 1 ordinates, each of at most 1000
pub record TransverseFits (s : List ℕ) (w g : ℕ) : Type 0 where
  pub wide : 300 ≤ w
  pub narrow : w ≤ 2079
  pub apart : 10 ≤ g
  pub close : g ≤ 50
  pub room : 4 * (spaces w g + 1) ≤ length s
  pub near : (k : ℕ) → k ≤ spaces w g → Within 1000 (word_at s k)

-- the section has ordinates 0 to last, each of at most 1000
pub record OrdinatesTo (s : List ℕ) (last : ℕ) : Type 0 where
  pub room : 4 * (last + 1) ≤ length s
  pub near : (k : ℕ) → k ≤ last → Within 1000 (word_at s k)
