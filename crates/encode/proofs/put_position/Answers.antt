use mir.Syntax.{w64}
use mir.Val.{SFits}
use Rattle.numbers.proofs.Stores.{and_then, natural, signed}
use borrow.Author.Rules.{rules}
use Rattle.encode.proofs.put_position.Goals as goal

pub returns : goal.returns
returns c =
    let f : SFits w64 c.args.p.station = search rules in
    and_then (signed f c.put_signed.ensures) (natural c.from.ensures.0 c.put_count.ensures)
