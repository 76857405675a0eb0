use Prim.Native.Nat.{◌-◌}
use Rattle.words.specs.Fields.{item_misfit}
use Rattle.model.specs.Format.{header_of, section_of}
use Rattle.model.specs.Refusals.{row_tests}
use Rattle.model.specs.declared.Part.TheVariants.{Rows}
use Rattle.job.specs.Defects.{chain_passes}
use Rattle.limits.proofs.Scans.{Searched}
use Rattle.job.proofs.defects.first_row.Given as goal

abbrev pub invariant-loop-i : goal.invariant-loop-i
invariant-loop-i l = Searched (item_misfit (row_tests (header_of l.s).rows (chain_passes l.defect l.s)).fields (section_of l.s Rows)) (header_of l.s).rows l.i

abbrev pub decreases-loop-i : goal.decreases-loop-i
decreases-loop-i l = l.i-end - l.i
