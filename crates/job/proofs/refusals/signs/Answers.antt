use mathlib.Core.Path.{sym, ◌∙◌, ap}
use native.Mathlib.Omega.{arith}
use lib.ListN.{length}
use Rattle.words.specs.Fields.{moved, misfit}
use Rattle.model.specs.Format.{start, section_of}
use Rattle.model.specs.Refusals.{signs, fault5}
use Rattle.model.specs.declared.Header.{Header}
use Rattle.model.specs.declared.Part.TheVariants.{Line}
use Rattle.words.proofs.Fits.{below}
use Rattle.sections.proofs.Sizes.{counts, part_length}
use Rattle.job.proofs.refusals.signs.Goals as goal

pub crossing-own-requires : goal.crossing-own-requires
crossing-own-requires c =
    omega (arith, ap length c.section.ensures, part_length c.requires Line, ap (λ (h : Header). h.pieces) c.requires.own, (counts c.requires).pieces)

pub in_job-requires : goal.in_job-requires
in_job-requires c =
    (counts c.requires, λ p e. below (signs c.args.head.pieces) _ p (sym c.crossing-own.ensures ∙ e))

pub returns : goal.returns
unfolding fault5
returns c =
    c.in_job.ensures
    ∙ ap (moved (start c.args.head Line)) (c.crossing-own.ensures ∙ ap (misfit (signs c.args.head.pieces)) c.section.ensures)
    ∙ ap (λ (h : Header). moved (start h Line) (misfit (signs h.pieces) (section_of c.args.s.now Line))) c.requires.own

pub section-requires : goal.section-requires
section-requires c = c.requires
