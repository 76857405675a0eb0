use mathlib.Core.Path.{sym, ◌∙◌, ap}
use native.Mathlib.Omega.{arith}
use lib.ListN.{length}
use Rattle.model.specs.Format.{format}
use Rattle.model.specs.declared.Header.{Header}
use Rattle.model.specs.declared.Part.TheVariants.{Line}
use Rattle.words.proofs.Fits.{below}
use Rattle.sections.proofs.Sizes.{counts, part_length}
use Rattle.job.proofs.refusals.line.Goals as goal

pub misfit-own-requires : goal.misfit-own-requires
misfit-own-requires c =
    (counts c.requires, omega (arith, ap length c.section.ensures, part_length c.requires Line, ap (λ (h : Header). h.pieces) c.requires.own))

pub in_job-requires : goal.in_job-requires
in_job-requires c =
    (counts c.requires, λ p e. below (format c.args.head Line) _ p (sym c.misfit-own.ensures ∙ e))
