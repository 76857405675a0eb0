use mathlib.Core.Path.{◌≡◌, ◌∙◌, ap, ap₂}
use mathlib.Core.List.{List}
use Prim.Native.Nat.{ℕ, suc}
use native.Mathlib.Omega.{arith}
use lib.ListN.{length, take, length-take}
use Rattle.buffer.proofs.Stores.{retold}
use Rattle.model.specs.Decode.{first_record, terms_from}
use Rattle.model.specs.StandardForm.{chain_bytes, record_bytes}
use Rattle.model.specs.declared.Header.{Header}
use Rattle.forms.proofs.Rising.{records_mono}
use Rattle.forms.proofs.Reading.{records_length}
use Rattle.tables.specs.ChainsRead.{ChainsRead, terms_in, chain_terms, table_terms}
use Rattle.tables.proofs.Gathered.{listed}
use Rattle.tables.proofs.Joining.{chain_terms_lem, records_few, records_on, joined_on}
use Rattle.tables.proofs.put_chains.Goals as goal

-- a row's terms by the factors found
own : {rows records : List ℕ} {head : Header} (read : ChainsRead rows records head) (i first : ℕ) (found : List ℕ) → first ≡ first_record rows (suc i) → found ≡ listed (terms_from records head.records first) →
    terms_in (take head.effects found) (length (take head.effects found)) ≡ table_terms rows records head (suc i)
own {records = records} {head = head} read i first found start gives = chain_terms_lem records head.records head.effects read.effects found first gives ∙ ap (chain_terms records head.records head.effects) start

pub put_chain-number-requires : goal.put_chain-number-requires
put_chain-number-requires c =
    let r = c.requires.0 in
    let l = c.loop-i in
    let terms = table_terms c.args.rows.now c.args.records.now c.args.head in
    let k = ap length (own r l.i c.first_record.result c.factors-found.result c.first_record.ensures c.factors-found.ensures) in
    (omega (arith, r.effects, length-take c.args.head.effects c.factors-found.result), omega (arith, l.invariant.number, records_few r l.i (omega arith)), omega (arith, k, records_length terms l.i, records_mono terms l.i c.args.head.rows (omega arith), c.requires.1))

pub overflow_add-number : goal.overflow_add-number
overflow_add-number c =
    let r = c.requires.0 in
    let l = c.loop-i in
    let k = ap length (own r l.i c.first_record.result c.factors-found.result c.first_record.ensures c.factors-found.ensures) in
    omega (arith, l.invariant.number, k, c.put_chain-number.ensures.count, records_few r l.i (omega arith))

pub loop-i-preserved : goal.loop-i-preserved
loop-i-preserved c =
    let r = c.requires.0 in
    let l = c.loop-i in
    let terms = table_terms c.args.rows.now c.args.records.now c.args.head in
    let same = own r l.i c.first_record.result c.factors-found.result c.first_record.ensures c.factors-found.ensures in
    record {
      number = omega (arith, l.invariant.number, ap length same, c.put_chain-number.ensures.count, records_on terms l.i);
      puts = joined_on (record_bytes terms) l.i l.invariant.puts (retold (ap₂ chain_bytes l.invariant.number same) c.put_chain-number.ensures.puts);
    }
