use mathlib.Core.Path.{◌≡◌}
use mathlib.Core.List.{List}
use Prim.Native.Nat.{ℕ, ◌-◌, ◌*◌, ◌≤◌}
use lib.IntN.{ℤ}
use Rattle.exact.specs.Bounds.{Within}
use Rattle.exact.specs.Ranges.{sum_to}
use Rattle.model.specs.Decode.{piece_at}
use Rattle.model.specs.declared.Sense.{Sense}
use Rattle.model.specs.declared.Sense.TheVariants.{Raising, Lowering}
use Rattle.line.specs.Sought.{loaded_sum}
use Rattle.line.proofs.pieces.double_areas.Given as goal

-- the ordinate sums of a sense's pieces before i
abbrev pub sums : Sense → List ℕ → ℕ → ℤ
sums sense line i = sum_to i (λ j. loaded_sum sense (piece_at line j))

abbrev pub invariant-loop-i : goal.invariant-loop-i
invariant-loop-i l = (l.i ≤ l.n) × ((l.raised ≡ sums Raising l.line l.i) × Within (10000 * l.i) l.raised) × ((l.lowered ≡ sums Lowering l.line l.i) × Within (10000 * l.i) l.lowered)

abbrev pub decreases-loop-i : goal.decreases-loop-i
decreases-loop-i l = l.n - l.i
