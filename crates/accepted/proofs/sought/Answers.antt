use mathlib.Core.Path.{sym, subst}
use mathlib.Core.List.{List}
use Prim.Native.Nat.{ℕ}
use Rattle.model.specs.Decode.{decode, influence_line}
use Rattle.model.specs.Format.{header_of}
use Rattle.pair.specs.LineFits.{LineFits}
use Rattle.line.specs.Sought.{SensesRight}
use Rattle.model.specs.declared.Header.{Header}
use Rattle.accepted.proofs.Fits.{sized, line_fits, line_limits}
use Rattle.accepted.proofs.sought.Goals as goal

pub seek-requires : goal.seek-requires
seek-requires c =
    record { line_fits = subst (λ (l : List ℕ). LineFits l c.args.head.pieces) (sym c.section.ensures) (line_fits c.requires); le_h = line_limits c.requires }

pub returns : goal.returns
unfolding decode
returns c =
    let b = c.args.job.now in
    subst (λ (l : List ℕ). SensesRight (influence_line l (header_of b).h (header_of b).pieces) c.seek.result) c.section.ensures
    (subst (λ (h : Header). SensesRight (influence_line c.section.result.now h.h h.pieces) c.seek.result) c.requires.own c.seek.ensures)

pub section-requires : goal.section-requires
section-requires c = sized c.requires
