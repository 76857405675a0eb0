use mathlib.Core.Path.{sym, ◌∙◌, subst}
use Prim.Native.Nat.{◌<◌}
use Rattle.model.specs.Format.{header_of, words}
use Rattle.model.specs.Refusals.{row_tests}
use Rattle.model.specs.declared.Header.{Header}
use Rattle.model.specs.declared.Part.TheVariants.{Rows}
use Rattle.words.proofs.Fits.{below}
use Rattle.sections.proofs.Sizes.{counts}
use Rattle.job.proofs.refusals.defective.Goals as goal

pub in_job-requires : goal.in_job-requires
in_job-requires c =
    (counts c.requires.0, λ p e. subst (λ (h : Header). p < words h Rows) (sym c.requires.0.own) (below (row_tests (header_of c.args.s.now).rows _) _ p (sym c.first_row.ensures ∙ e)))
