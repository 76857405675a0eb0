-- The centres that a lane's best is chosen from: its limits and the transverse ordinates between.
use Rattle.std.specs.Prelude.{ℕ, suc, ◌*◌, ◌/◌, ◌%◌, ◌≤◌, ◌<◌, ◌≡◌, List, ℤ, pos, ◌+ℤ◌, ◌-ℤ◌, ◌*ℤ◌}
use Rattle.exact.specs.Bounds.{Within}
use Rattle.exact.specs.Questions.{NoBetter}
use Rattle.exact.specs.declared.Question.{Question}
use Rattle.words.specs.Words.{word_at}
use Rattle.magnitudes.specs.Magnitudes.{transverse_most}
use Rattle.centres.specs.declared.Centre.{Centre}

-- the transverse ordinate of a section at a centre, the ordinates being d apart: thousandths times d
unfoldable pub ordinate_at : List ℕ → (d centre : ℕ) → ℤ
ordinate_at s d centre = (pos d -ℤ pos (centre % d)) *ℤ word_at s (centre / d) +ℤ pos (centre % d) *ℤ word_at s (suc (centre / d))

-- a centre with the ordinate there
abbrev pub centre_at : List ℕ → (d at : ℕ) → Centre
centre_at s d at = record { ordinate = ordinate_at s d at; at = at }

-- a centre from lo to hi with the ordinate there
pub record CentreStands (s : List ℕ) (d lo hi : ℕ) (c : Centre) : Type 0 where
  pub from : lo ≤ c.at
  pub to : c.at ≤ hi
  pub here : ordinate_at s d c.at ≡ c.ordinate
  pub near : Within transverse_most c.ordinate

-- no better one stands at lo, at hi, or at a transverse ordinate between, numbered below m
pub record BestBefore (q : Question) (s : List ℕ) (d lo hi m : ℕ) (c : Centre) : Type 0 where
  pub stands : CentreStands s d lo hi c
  pub at_lo : NoBetter q (ordinate_at s d lo) c.ordinate
  pub at_hi : NoBetter q (ordinate_at s d hi) c.ordinate
  pub between : (k : ℕ) → k < m → lo ≤ d * k → d * k ≤ hi → NoBetter q (ordinate_at s d (d * k)) c.ordinate
