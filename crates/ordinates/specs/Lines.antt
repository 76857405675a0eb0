-- What a pass over a line's own bytes finds.
use Rattle.std.specs.Prelude.{◌≡◌, true, false, List, ℕ, ◌+◌, ◌*◌, ◌/◌, ◌<◌, ℤ, neg_ℤ, length}
use Rattle.exact.specs.Choice.{between}
use Rattle.words.specs.Words.{word_at}
use Rattle.model.specs.Format.{size}
use Rattle.model.specs.declared.Part.TheVariants.{Line}
use Rattle.model.specs.Refusals.{crosses}

-- every word is from -m to m
abbrev pub AllWithin : List ℕ → ℤ → Type 0
AllWithin s m = (k : ℕ) → k < length s / 4 → between (neg_ℤ m) m (word_at s k) ≡ true

-- none of so many pieces has one ordinate above 0 and one below
abbrev pub NoneCrosses : List ℕ → (pieces : ℕ) → Type 0
NoneCrosses s pieces = (i : ℕ) → i < pieces → crosses (word_at s (size Line * i)) (word_at s (size Line * i + 1)) ≡ false
