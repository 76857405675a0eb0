use mathlib.Core.Path.{◌≡◌, sym}
use Prim.Native.Nat.{suc}
use native.Mathlib.Omega.{arith}
use lib.ListN.{length}
use Rattle.tables.specs.ChainsRead.{table_terms}
use Rattle.tables.proofs.Joining.{records_few}
use Rattle.tables.proofs.total.Goals as goal

pub overflow_add-sum : goal.overflow_add-sum
overflow_add-sum c =
    let l = c.loop-i in
    let counted : c.chain_count-sum.result ≡ length (table_terms c.args.rows.now c.args.records.now c.args.head (suc l.i)) = rw (sym c.first_record.ensures) c.chain_count-sum.ensures in
    omega (arith, l.invariant, counted, records_few c.requires l.i (omega arith))
