use mathlib.Core.Path.{◌∙◌}
use native.Mathlib.Omega.{arith}
use Rattle.writer.proofs.Fronts.{sized, reads_in, count_in, few}
use Rattle.writer.proofs.count.Goals as goal

pub total-requires : goal.total-requires
total-requires c = reads_in c.requires c.section-rows.ensures c.section-records.ensures

pub returns : goal.returns
returns c =
    let w = c.requires in
    let e = c.total.ensures ∙ count_in w c.section-rows.ensures c.section-records.ensures in
    (e, omega (arith, few w))

pub section-rows-requires : goal.section-rows-requires
section-rows-requires c = sized c.requires

pub section-records-requires : goal.section-records-requires
section-records-requires c = sized c.requires
