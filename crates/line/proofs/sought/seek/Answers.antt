use borrow.Author.Rules.{rules}
use mathlib.Core.Path.{◌≡◌, refl, sym, ◌∙◌, subst}
use mathlib.Core.List.{List}
use Prim.Native.Nat.{ℕ, ◌+◌, ◌*◌, ◌≤◌}
use native.Mathlib.Nat.{div-le_self}
use native.Mathlib.Omega.{arith}
use lib.Dec.{lit<}
use lib.IntN.{ℤ}
use mir.Syntax.{w32, w64}
use mir.Val.{SFits, to_z, of_z}
use Rattle.exact.specs.Bounds.{Within}
use Rattle.exact.specs.Questions.{for_question}
use Rattle.exact.specs.declared.ByQuestion.{ByQuestion}
use Rattle.exact.proofs.Held.{Held, told, any, known, retold}
use Rattle.model.specs.Job.{InfluenceLine}
use Rattle.model.specs.Decode.{influence_line}
use Rattle.model.specs.Line.{axle_spacing, sought}
use Rattle.model.specs.Answers.{for_sense}
use Rattle.model.specs.declared.BySense.{BySense}
use Rattle.model.specs.declared.Sense.{Sense}
use Rattle.model.specs.declared.Sense.TheVariants.{Raising, Lowering}
use Rattle.pair.specs.LineFits.{LineFits}
use Rattle.pair.specs.PairPlaces.{placed, rank_most, RanksRight}
use Rattle.pair.proofs.Places.{placed_near}
use Rattle.line.specs.Sought.{double_area, Found}
use Rattle.line.proofs.Leading.{best_near}
use Rattle.line.proofs.sought.seek.Goals as goal

-- the best ranks of a line that fits
module _ (s : List ℕ) (h n : ℕ) (line_fits : LineFits s n) (ranks : ByQuestion ℤ) (right : RanksRight (placed (influence_line s h n)) (2 * (n + axle_spacing (influence_line s h n)) + 1) ranks) where
  abbrev line : InfluenceLine
  line = influence_line s h n

  near : (p : ℕ) → Within 10000 (placed line p)
  near = placed_near s h n line_fits

  -- a sense's rank, as it is passed
  abbrev rank : Sense → ℤ
  rank sense = to_z w32 (of_z w32 (for_question (sought sense) ranks))

  few : line.pieces + axle_spacing line ≤ 1050
  few = omega (arith, line_fits.few, div-le_self 50 h)

  bounded : (sense : Sense) → SFits w32 (for_question (sought sense) ranks) → Within rank_most (rank sense)
  bounded sense f = subst (Within rank_most) (sym ((any f).is ∙ right (sought sense))) (best_near (sought sense) (placed line) (2 * (line.pieces + axle_spacing line) + 1) (omega (arith, few)) near)

  found : (sense : Sense) {a : ℤ} → SFits w32 (for_question (sought sense) ranks) → a ≡ double_area line sense → Found line sense a (rank sense)
  found sense f e = record { area = e; rank = (any f).is ∙ right (sought sense); few = few; near = near }

-- a sense's area, as it is passed
area : (given : InfluenceLine) (areas : BySense ℤ) (sense : Sense) → (for_sense sense areas ≡ double_area given sense) × Within 10000000 (for_sense sense areas) → Held w64 (of_z w64 (for_sense sense areas)) 10000000 (double_area given sense)
area given areas sense e = retold (known w64 e.1 (lit< tt)) e.0

pub sought_at-requires : goal.sought_at-requires
sought_at-requires c =
    let a = c.args in
    let b = c.best_ranks-ranks in
    (c.requires.le_h.0, (told (area (influence_line a.line.now a.h a.n) c.double_areas-areas.result Raising (c.double_areas-areas.ensures Raising))).1, bounded a.line.now a.h a.n c.requires.line_fits b.result b.ensures Raising (search rules))

pub sought_at-requires-2 : goal.sought_at-requires-2
sought_at-requires-2 c =
    let a = c.args in
    let b = c.best_ranks-ranks in
    (c.requires.le_h.0, (told (area (influence_line a.line.now a.h a.n) c.double_areas-areas.result Lowering (c.double_areas-areas.ensures Lowering))).1, bounded a.line.now a.h a.n c.requires.line_fits b.result b.ensures Lowering (search rules))

pub returns : goal.returns
returns c Raising =
    let a = c.args in
    let b = c.best_ranks-ranks in
    let line = influence_line a.line.now a.h a.n in
    c.sought_at.ensures line refl (found a.line.now a.h a.n c.requires.line_fits b.result b.ensures Raising (search rules) (area line c.double_areas-areas.result Raising (c.double_areas-areas.ensures Raising)).is)
returns c Lowering =
    let a = c.args in
    let b = c.best_ranks-ranks in
    let line = influence_line a.line.now a.h a.n in
    c.sought_at-2.ensures line refl (found a.line.now a.h a.n c.requires.line_fits b.result b.ensures Lowering (search rules) (area line c.double_areas-areas.result Lowering (c.double_areas-areas.ensures Lowering)).is)
