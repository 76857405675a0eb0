use mathlib.Core.Path.{◌≡◌, sym, ◌∙◌, ap}
use mathlib.Core.List.{◌++◌}
use Prim.Native.Nat.{ℕ, suc}
use native.Mathlib.Omega.{arith}
use lib.ListN.{length}
use Rattle.buffer.proofs.Stores.{retold}
use Rattle.model.specs.StandardForm.{records_to, start_at, row_head, word_bytes, row_bytes}
use Rattle.tables.specs.ChainsRead.{table_terms}
use Rattle.forms.proofs.Reading.{rows_length}
use Rattle.tables.proofs.Joining.{row_inside, records_few, records_on, joined_on}
use Rattle.tables.proofs.put_rows.Goals as goal

pub put_row-requires : goal.put_row-requires
put_row-requires c =
    let r = c.requires.0 in
    let l = c.loop-i in
    let inside = row_inside r l.i (omega arith) in
    let done = rows_length c.args.rows.now (table_terms c.args.rows.now c.args.records.now c.args.head) l.i (omega (arith, inside)) in
    (omega (arith, c.requires.1), inside)

pub overflow_add-number : goal.overflow_add-number
overflow_add-number c =
    let r = c.requires.0 in
    let l = c.loop-i in
    let counted : c.chain_count-k.result ≡ length (table_terms c.args.rows.now c.args.records.now c.args.head (suc l.i)) = rw (sym c.first_record-first.ensures) c.chain_count-k.ensures in
    omega (arith, counted, records_few r l.i (omega arith))

pub loop-i-preserved : goal.loop-i-preserved
loop-i-preserved c =
    let l = c.loop-i in
    let rows = c.args.rows.now in
    let all = table_terms rows c.args.records.now c.args.head in
    let own = all (suc l.i) in
    let counted : c.chain_count-k.result ≡ length own = rw (sym c.first_record-first.ensures) c.chain_count-k.ensures in
    let first : c.start_at.result ≡ start_at (suc (records_to l.i all)) own = c.start_at.ensures own (sym counted) ∙ ap (λ (k : ℕ). start_at k own) l.invariant.number in
    record {
      number = omega (arith, l.invariant.number, counted, records_on all l.i);
      puts = joined_on (row_bytes rows all) l.i l.invariant.puts (retold (ap (λ (k : ℕ). row_head rows l.i ++ word_bytes k) first) c.put_row.ensures);
    }
