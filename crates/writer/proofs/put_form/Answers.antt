use mathlib.Core.Path.{refl, ◌∙◌, ap, ap₂}
use mathlib.Core.List.{List, ◌++◌}
use Prim.Native.Nat.{ℕ}
use native.Mathlib.Omega.{arith}
use borrow.Author.Rules.{rules}
use lib.ListN.{length}
use Rattle.buffer.proofs.Stores.{and_then, retold, from_start}
use Rattle.writer.specs.Writable.{form_front}
use Rattle.writer.proofs.Fronts.{sized, reads_in, count_in, rows_in, records_in, rows_length, room, form_is}
use Rattle.writer.proofs.put_form.Goals as goal

pub section-rows-requires : goal.section-rows-requires
section-rows-requires c = sized c.requires.0

pub section-records-requires : goal.section-records-requires
section-records-requires c = sized c.requires.0

pub put_front-requires : goal.put_front-requires
put_front-requires c = let p = c.requires in (p.0, p.1, omega (arith, room p.0, p.2))

pub put_rows-requires : goal.put_rows-requires
put_rows-requires c =
    let p = c.requires in
    (reads_in p.0 c.section-rows.ensures c.section-records.ensures, omega (arith, room p.0, p.2))

pub put_chains-requires : goal.put_chains-requires
put_chains-requires c =
    let p = c.requires in
    let rows = c.section-rows.ensures in
    let records = c.section-records.ensures in
    (reads_in p.0 rows records, omega (arith, room p.0, p.2, ap length (rows_in p.0 rows records), rows_length p.0, count_in p.0 rows records))

pub returns : goal.returns
returns c =
    let p = c.requires in
    let b = c.args.job.now in
    let rows = c.section-rows.ensures in
    let records = c.section-records.ensures in
    let same = ap₂ (λ (x y : List ℕ). form_front b ++ (x ++ y)) (rows_in p.0 rows records) (records_in p.0 rows records) ∙ form_is p.0 in
    let puts = retold same (and_then c.put_front.ensures (and_then c.put_rows.ensures c.put_chains.ensures)) in
    from_start puts refl p.2 (search rules)
