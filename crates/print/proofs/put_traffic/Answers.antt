use mir.Syntax.{w64}
use mir.Val.{SFits}
use borrow.Author.Rules.{rules}
use Rattle.buffer.proofs.Stores.{and_then}
use Rattle.decimal.specs.Decimal.{ascii}
use Rattle.decimal.proofs.Signs.{signed_kept}
use Rattle.print.proofs.put_traffic.Goals as goal

pub returns-clause-puts : goal.returns-clause-puts
returns-clause-puts c =
    let t = c.args.t in
    let g : SFits w64 t.greatest.value = search rules in
    let l : SFits w64 t.least.value = search rules in
    let greatest = signed_kept (ascii " greatest ") g c.put_value.ensures.puts in
    let least = signed_kept (ascii " least ") l c.put_value-2.ensures.puts in
    and_then c.put.ensures (and_then (and_then greatest least) c.put-2.ensures)
