use mathlib.Core.Path.{refl}
use mathlib.Core.List.{◌∷◌}
use Rattle.words.specs.Fields.{range, given}
use Rattle.model.specs.Format.{least_span_fits}
use Rattle.headers.proofs.newton_counts.Goals as goal

pub returns : goal.returns
returns c more later =
    c.listed_counts.ensures (given 5 (λ kind item value. least_span_fits kind value) ∷ range 0 0 ∷ more)
    (rw (
      c.field.ensures,
      c.least_span_fits.ensures,
      c.field-zero.ensures,
      c.in_range.ensures,
      later,
    )
    refl)
