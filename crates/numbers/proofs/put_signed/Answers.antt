use mathlib.Core.Path.{◌∙◌, ap}
use mir.Syntax.{w64}
use mir.Val.{of_z}
use mir.Facts.{to_z-of_z}
use Rattle.numbers.proofs.Stores.{one}
use Rattle.numbers.proofs.put_signed.Goals as goal

pub returns : goal.returns
returns c = one c.args.v c.ranges.v (c.cast_unsigned.ensures ∙ ap (of_z w64) (to_z-of_z c.ranges.v)) c.put_number.ensures
