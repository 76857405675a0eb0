use mir.Syntax.{w64}
use mir.Val.{SFits}
use borrow.Author.Rules.{rules}
use Rattle.numbers.proofs.Stores.{and_then, signed}
use Rattle.encode.proofs.put_values.Goals as goal

pub returns : goal.returns
returns c =
    let t = c.args.t in
    let g : SFits w64 t.greatest.value = search rules in
    let l : SFits w64 t.least.value = search rules in
    and_then (signed g c.put_signed.ensures) (signed l c.put_signed-2.ensures)
