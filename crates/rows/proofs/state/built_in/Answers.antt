use mathlib.Core.Path.{◌≡◌, refl, sym, ◌∙◌}
use Prim.Native.Nat.{ℕ}
use lib.IntN.{ℤ}
use Rattle.exact.specs.Questions.{for_question}
use Rattle.exact.specs.declared.Question.{Question}
use Rattle.model.specs.Format.{kilonewtons}
use Rattle.model.specs.Decode.{effect_at}
use Rattle.model.specs.Job.{Effect, Live}
use Rattle.model.specs.RuralBridges.{group_row}
use Rattle.model.specs.declared.Governing.{Governing}
use Rattle.groups.specs.FactorLines.{line_row, line_alternative}
use Rattle.rows.specs.Governed.{traffic_of, AlternativeRight, RowRight, better_row}
use Rattle.rows.proofs.Loaded.{one_alternative, two_alternatives}
use Rattle.rows.proofs.BuiltIn.{first_line, alone}
use Rattle.rows.proofs.state.built_in.Goals as goal

-- row 16, by both of its lines
better : (q : Question) (effect : ℕ → Effect) (traffic : Live → ℤ) (r : ℕ) (x y : Governing) → r ≡ 16 →
    (x.row ≡ r) × (x.k ≡ 1300) × AlternativeRight q effect (group_row (line_row 15)) traffic (line_alternative 15) x →
    (y.row ≡ r) × (y.k ≡ 800) × AlternativeRight q effect (group_row (line_row 20)) traffic (line_alternative 20) y →
    let z = better_row q x y in (z.row ≡ r) × RowRight q effect group_row traffic z
better q effect traffic r x y e f g =
    let both = two_alternatives q effect group_row traffic 16 x y refl (f.0 ∙ e) (g.0 ∙ e) f.1 g.1 f.2 g.2 in
    (both.0 ∙ sym e, both.1)

pub returns-then-r-eq16 : goal.returns-then-r-eq16
returns-then-r-eq16 c q =
    let a = c.args in
    rw (c.better_both.ensures q) (better q (effect_at kilonewtons a.effects.now) (traffic_of a.live q) a.r _ _ c.if-r-eq16.true (c.by_line-first.ensures q) (c.by_line-second.ensures q))

pub returns : goal.returns
returns c q =
    let a = c.args in
    let one = alone a.r c.if-r-eq16.false in
    let x = c.by_line.ensures q in
    one_alternative q (effect_at kilonewtons a.effects.now) group_row (traffic_of a.live q) a.r _ one.0 x.0 (x.1 ∙ one.1)
    (first_line (λ r i. AlternativeRight q (effect_at kilonewtons a.effects.now) (group_row r) (traffic_of a.live q) i (for_question q c.by_line.result)) a.r c.requires.2 c.requires.3 x.2)
