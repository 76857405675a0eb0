use mathlib.Core.Bool.{Bool}
use mathlib.Core.Path.{◌≡◌, refl, sym, ◌∙◌, ap}
use native.Mathlib.Omega.{arith}
use lib.Dec.{eqb}
use lib.IntN.{ℤ, pos}
use mir.Syntax.{w16}
use Rattle.exact.specs.Questions.{beats}
use Rattle.exact.proofs.Bounds.{within_pos}
use Rattle.exact.proofs.Held.{got, told}
use Rattle.model.specs.Decode.{piece_at}
use Rattle.model.specs.Job.{Piece}
use Rattle.model.specs.Line.{sought, end_sum, patch_byte, loaded_byte}
use Rattle.model.specs.declared.Sense.{Sense}
use Rattle.line.proofs.Loading.{loaded_by}
use Rattle.line.proofs.pieces.loaded_sum.Goals as goal

-- the test's answer is that of the patch byte
tested : (sense : Sense) (p : Piece) {sum : ℤ} {r t : Bool} → sum ≡ end_sum p → r ≡ beats (sought sense) sum (pos 0) → r ≡ t → eqb (patch_byte p) (loaded_byte sense) ≡ t
tested sense p is asked e = loaded_by p sense ∙ ap (λ (z : ℤ). beats (sought sense) z (pos 0)) (sym is) ∙ sym asked ∙ e

pub returns-then-loads : goal.returns-then-loads
returns-then-loads c =
    let sum = got w16 c.end_sum-sum.type_inv c.end_sum-sum.ensures in
    rw (tested c.args.sense (piece_at c.args.line.now c.args.i) sum.is c.loads.ensures c.if-loads.true) (told sum)

pub returns-else-loads : goal.returns-else-loads
returns-else-loads c =
    let sum = got w16 c.end_sum-sum.type_inv c.end_sum-sum.ensures in
    rw (tested c.args.sense (piece_at c.args.line.now c.args.i) sum.is c.loads.ensures c.if-loads.false) (refl, within_pos 10000 (omega arith))
