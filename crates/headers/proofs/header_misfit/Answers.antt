use mathlib.Core.Path.{refl}
use mir.Syntax.{w64}
use Rattle.exact.proofs.Held.{back}
use Rattle.headers.proofs.header_misfit.Goals as goal

pub returns : goal.returns
returns c =
    rw (
      c.field.ensures,
      c.length_fits.ensures,
      c.field-pieces.ensures,
      c.pieces_fit.ensures,
      back w64 c.word.type_inv c.word.ensures.0,
      back w64 c.word-h.type_inv c.word-h.ensures.0,
      c.field-spacing.ensures,
      c.in_range-2.ensures,
      c.field-width.ensures,
      c.width_fits.ensures,
      c.field-kind.ensures,
      c.in_range.ensures,
      c.dynamic_kinds.ensures,
      c.field-value.ensures,
      c.counts_misfit.ensures,
      c.dynamic_fits.ensures,
    )
    refl
