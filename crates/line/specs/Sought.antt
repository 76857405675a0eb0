-- What is sought of a line for each sense, and the line effects of the kinds by it.
use Rattle.std.specs.Prelude.{ℕ, ◌+◌, ◌*◌, ◌≤◌, ◌≡◌, eqb, ℤ, pos, ◌*ℤ◌, if◌then◌else◌}
use Rattle.exact.specs.Bounds.{Within}
use Rattle.exact.specs.Ranges.{sum_to}
use Rattle.magnitudes.specs.Magnitudes.{pair_most, area_most, line_most}
use Rattle.model.specs.Job.{Piece, InfluenceLine}
use Rattle.model.specs.Line.{Kind, HN, HO, axle_spacing, sought, end_sum, patch_byte, loaded_byte, best_pair, line_effect}
use Rattle.model.specs.Answered.{PositionRight}
use Rattle.model.specs.declared.Sense.{Sense}
use Rattle.model.specs.declared.BySense.{BySense}
use Rattle.model.specs.Answers.{for_sense}
use Rattle.pair.specs.PairPlaces.{placed, best_rank}
use Rattle.line.specs.declared.sought.Sought.{Sought}
use Rattle.line.specs.declared.kinds.Kind.{Kind as CodeKind}
use Rattle.line.specs.declared.kinds.Kind.TheVariants.{Hn, Ho}

-- a piece's ordinate sum where an element of the sense loads it, else 0
abbrev pub loaded_sum : Sense → Piece → ℤ
loaded_sum sense p = if eqb (patch_byte p) (loaded_byte sense) then end_sum p else pos 0

-- twice the line's area over a sense's whole pieces, in dm·U: h times (a + b) each
unfoldable pub double_area : InfluenceLine → Sense → ℤ
double_area line sense = pos line.h *ℤ sum_to line.pieces (λ i. loaded_sum sense (line.piece i))

-- what is sought is near enough to 0 to go on into arithmetic
pub record SoughtNear (s : Sought) : Type 0 where
  pub area : Within area_most s.area
  pub pair : Within pair_most s.pair

-- a sense's area, and the best rank of its question over all places of the pair
pub record Found (line : InfluenceLine) (sense : Sense) (a r : ℤ) : Type 0 where
  pub area : a ≡ double_area line sense
  pub rank : r ≡ best_rank (sought sense) (placed line) (2 * (line.pieces + axle_spacing line) + 1)
  pub few : line.pieces + axle_spacing line ≤ 1050
  pub near : (p : ℕ) → Within pair_most (placed line p)

-- the sense's area and best pair, with a position that gives it
pub record SoughtRight (line : InfluenceLine) (sense : Sense) (s : Sought) : Type 0 where
  pub area : s.area ≡ double_area line sense
  pub pair : s.pair ≡ best_pair line sense
  pub position : PositionRight line sense s.position
  pub near : SoughtNear s

-- what both senses seek is right
abbrev pub SensesRight : InfluenceLine → BySense Sought → Type 0
SensesRight line s = (sense : Sense) → SoughtRight line sense (for_sense sense s)

-- the kind that the code means
abbrev pub kind_of : CodeKind → Kind
kind_of Hn = HN
kind_of Ho = HO

-- a kind's line effect, in 75 N·U, on every line of which that is sought; near enough to go on
pub record EffectRight (kind : Kind) (s : Sought) (r : ℤ) : Type 0 where
  pub is : (line : InfluenceLine) (sense : Sense) → SoughtRight line sense s → r ≡ line_effect line kind sense
  pub near : Within (line_most kind) r
