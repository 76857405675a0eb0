use mathlib.Core.Path.{ap, ◌∙◌}
use mir.Facts.{to_z-of_z}
use Rattle.decimal.specs.Decimal.{decimal, signed}
use Rattle.buffer.proofs.Stores.{and_then, retold}
use Rattle.decimal.proofs.Signs.{signed_below, signed_above}
use Rattle.decimal.proofs.put_signed.Goals as goal
use Rattle.decimal.proofs.put_signed.Goals.{then-v-lt0, else-v-lt0}

pub returns-clause-puts : goal.returns-clause-puts
returns-clause-puts c =
    let number = retold (ap decimal c.unsigned_abs.ensures.value) c.put_decimal.ensures.puts in
    elim c.if-v-lt0.branch [
      | then-v-lt0 w ↦ retold (signed_below _ w.if-v-lt0.true ∙ ap signed (to_z-of_z c.ranges.v)) (and_then w.put.ensures (rw w.w-is at number))
      | else-v-lt0 w ↦ retold (signed_above _ w.if-v-lt0.false ∙ ap signed (to_z-of_z c.ranges.v)) (rw w.w-is at number)
    ]
