use mir.Syntax.{w64}
use mir.Val.{SFits}
use borrow.Author.Rules.{rules}
use Rattle.numbers.proofs.Stores.{and_then, natural, signed}
use Rattle.reports.proofs.put_stand.Goals as goal

pub returns : goal.returns
returns c =
    let way = natural c.from.ensures.0 c.put_count.ensures in
    let side = natural c.from-2.ensures.0 c.put_count-2.ensures in
    let f : SFits w64 c.args.x.station = search rules in
    and_then (and_then way side) (signed f c.put_signed.ensures)
