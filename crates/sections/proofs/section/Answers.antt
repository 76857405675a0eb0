use mathlib.Core.Path.{◌∙◌}
use native.Mathlib.Omega.{arith}
use Rattle.model.specs.Format.{section}
use Rattle.sections.proofs.Sizes.{cut, counts, own_section, part_in}
use Rattle.sections.proofs.section.Goals as goal

pub slice_bounds-result-end : goal.slice_bounds-result-end
slice_bounds-result-end c =
    omega (arith, c.start-a.ensures.0, c.words.ensures.0, part_in c.requires c.args.part)

pub returns : goal.returns
unfolding section
returns c =
    cut c.args.s.now c.start-a.ensures.0 c.words.ensures.0 ∙ own_section c.requires c.args.part

pub start-a-requires : goal.start-a-requires
start-a-requires c = counts c.requires

pub words-requires : goal.words-requires
words-requires c = counts c.requires
