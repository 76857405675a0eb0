use Rattle.std.specs.Prelude.{if◌then◌else◌}
use mathlib.Core.Path.{◌≡◌, ◌∙◌, ap, ap₂}
use Prim.Native.Nat.{ℕ, ◌+◌}
use lib.IntN.{ℤ, pos}
use mir.Syntax.{w16}
use Rattle.exact.specs.Questions.{beats}
use Rattle.exact.proofs.Held.{got}
use Rattle.model.specs.Decode.{piece_at}
use Rattle.model.specs.Job.{Piece}
use Rattle.model.specs.Line.{sought, end_sum, loaded_byte}
use Rattle.model.specs.declared.Sense.{Sense}
use Rattle.model.specs.declared.Sense.TheVariants.{Raising, Lowering}
use Rattle.line.proofs.Loading.{byte_of, bytes_sum}
use Rattle.line.proofs.pieces.patch_byte.Goals as goal

-- a sense's byte, by what was passed
byte : (sense : Sense) (p : Piece) {sum : ℤ} {r : ℕ} → sum ≡ end_sum p → r ≡ (if beats (sought sense) sum (pos 0) then loaded_byte sense else 0) → r ≡ byte_of sense p
byte sense p is e = e ∙ ap (λ (z : ℤ). if beats (sought sense) z (pos 0) then loaded_byte sense else 0) is

pub returns : goal.returns
returns c =
    let p = piece_at c.args.line.now c.args.i in
    let is = (got w16 c.end_sum-sum.type_inv c.end_sum-sum.ensures).is in
    ap₂ ◌+◌ (byte Raising p is c.byte_where_loaded.ensures.0) (byte Lowering p is c.byte_where_loaded-2.ensures.0) ∙ bytes_sum p
