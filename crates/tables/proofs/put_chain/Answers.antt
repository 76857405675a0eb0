use mathlib.Core.Path.{sym, ap}
use Prim.Native.Nat.{◌+◌}
use native.Mathlib.Omega.{arith}
use lib.ListN.{length, length-append}
use Rattle.model.specs.StandardForm.{chain_bytes}
use Rattle.forms.proofs.Reading.{chain_length_lem}
use Rattle.tables.specs.ChainsRead.{terms_in}
use Rattle.tables.proofs.Later.{later, later_with, later_without, record_less}
use Rattle.tables.proofs.put_chain.Goals.{then-factor-ne0, else-factor-ne0}
use Rattle.tables.proofs.put_chain.Goals as goal

pub put_record-requires : goal.put_record-requires
put_record-requires c =
    let factors = c.args.factors.now in
    let n = length factors in
    let l = c.loop-j in
    let left = l.invariant.left in
    let rest = chain_bytes (c.args.c + l.done) (later factors n l.j) in
    omega (arith, left.puts.stored.ends, left.puts.long, ap length (later_with factors n l.j (omega arith) c.if-factor-ne0.true), length-append left.done rest, ap length left.is, chain_length_lem c.args.c (terms_in factors n), chain_length_lem (c.args.c + l.done) (later factors n l.j), c.requires.2, c.count-k.ensures, l.invariant.count)

pub loop-j-preserved : goal.loop-j-preserved
loop-j-preserved c =
    let factors = c.args.factors.now in
    let n = length factors in
    let l = c.loop-j in
    let rest = later factors n (l.j + 1) in
    elim c.if-factor-ne0.branch [
      | then-factor-ne0 w ↦
          let parts = later_with factors n l.j (omega arith) w.if-factor-ne0.true in
          let counted = ap length parts in
          record {
            count = omega (arith, w.done-is, l.invariant.count);
            left = rw (w.w-is, w.done-is) (record_less parts (omega arith) (w.start_at.ensures rest (omega (arith, l.invariant.count))) w.put_record.ensures l.invariant.left);
          }
      | else-factor-ne0 w ↦
          let same = later_without factors n l.j (omega arith) w.if-factor-ne0.false in
          let counted = ap length same in
          record { count = omega (arith, w.done-is, l.invariant.count); left = rw (w.w-is, w.done-is, sym same) l.invariant.left }
    ]
