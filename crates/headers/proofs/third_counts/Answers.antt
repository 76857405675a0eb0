use mathlib.Core.Path.{refl}
use mathlib.Core.List.{[], ◌∷◌}
use Rattle.model.specs.Format.{carriageway_width}
use Rattle.headers.proofs.third_counts.Goals as goal

pub returns : goal.returns
returns c = c.newton_counts.ensures (carriageway_width ∷ []) (rw (c.field.ensures, c.width_fits.ensures) refl)
