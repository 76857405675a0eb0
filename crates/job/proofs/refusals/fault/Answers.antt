use mathlib.Core.Path.{sym, ◌∙◌, ap}
use native.Mathlib.Omega.{arith}
use lib.ListN.{length}
use Rattle.model.specs.Format.{format, words}
use Rattle.model.specs.declared.Header.{Header}
use Rattle.words.proofs.Fits.{below}
use Rattle.sections.proofs.Sizes.{counts, part_length}
use Rattle.job.proofs.refusals.fault.Goals as goal

pub misfit-own-requires : goal.misfit-own-requires
misfit-own-requires c =
    (c.requires.0, counts c.requires.1, omega (arith, ap length c.section.ensures, part_length c.requires.1 c.args.part, ap (λ (h : Header). words h c.args.part) c.requires.1.own))

pub in_job-requires : goal.in_job-requires
in_job-requires c =
    (counts c.requires.1, λ p e. below (format c.args.head c.args.part) _ p (sym c.misfit-own.ensures ∙ e))
