use mathlib.Core.Path.{sym, ◌∙◌}
use Prim.Native.Nat.{◌%◌}
use native.Mathlib.Omega.{arith}
use lib.ListN.{length}
use borrow.Author.Tests.{lt-leb, eq-eqb, ne_eqb}
use Rattle.model.specs.Format.{header_of}
use Rattle.model.proofs.Verdict.{header_long}
use Rattle.job.proofs.Frames.{too_short, not_whole, framed_by}
use Rattle.job.proofs.refusals.frame.Goals.{else-s-via-then-s+then-s-eq0+else-has_edition, else-s-via-then-s+else-s-eq0, else-s-via-else-s}
use Rattle.job.proofs.refusals.frame.Goals as goal

pub returns-then-has_edition : goal.returns-then-has_edition
returns-then-has_edition c =
    let b = c.args.s.now in
    sym (framed_by b (eq-eqb (length b % 4) 0 c.if-s-eq0.true) (sym c.has_edition.ensures ∙ c.if-has_edition.true))

pub returns-else-s : goal.returns-else-s
returns-else-s c =
    let b = c.args.s.now in
    elim c.else-s.branch [
      | else-s-via-then-s+then-s-eq0+else-has_edition w ↦ sym (framed_by b (eq-eqb (length b % 4) 0 w.if-s-eq0.true) (sym w.has_edition.ensures ∙ w.if-has_edition.false))
      | else-s-via-then-s+else-s-eq0 w ↦ sym (not_whole b (ne_eqb (length b % 4) 0 w.if-s-eq0.false))
      | else-s-via-else-s w ↦ sym (too_short b (lt-leb _ (length b) (omega (arith, header_long (header_of b), w.if-s.false))))
    ]
