use mathlib.Core.Path.{◌≡◌}
use Rattle.model.specs.StandardForm.{records_to}
use Rattle.tables.specs.ChainsRead.{table_terms}
use Rattle.tables.proofs.total.Given as goal

abbrev pub invariant-loop-i : goal.invariant-loop-i
invariant-loop-i l = l.sum ≡ records_to l.i (table_terms l.rows l.records l.head)
