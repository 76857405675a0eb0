use mathlib.Core.Path.{◌≡◌}
use Prim.Native.Nat.{suc}
use Rattle.buffer.specs.Stored.{Puts}
use Rattle.model.specs.StandardForm.{records_to, record_bytes, joined}
use Rattle.tables.specs.ChainsRead.{table_terms}
use Rattle.tables.proofs.put_chains.Given as goal

abbrev pub invariant-loop-i : goal.invariant-loop-i
invariant-loop-i l =
    record { number : l.number ≡ suc (records_to l.i (table_terms l.rows l.records l.head)); puts : Puts l.initial.w (joined l.i (record_bytes (table_terms l.rows l.records l.head))) l.w }
