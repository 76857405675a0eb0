use mathlib.Core.List.{append_assoc}
use mir.Syntax.{w64}
use mir.Val.{SFits}
use borrow.Author.Rules.{rules}
use Rattle.buffer.proofs.Stores.{and_then, retold}
use Rattle.decimal.proofs.Signs.{signed_kept}
use Rattle.print.proofs.put_governing.Goals as goal

pub returns-clause-puts : goal.returns-clause-puts
returns-clause-puts c =
    let label = c.args.label.now in
    let f : SFits w64 c.args.g.value = search rules in
    retold (append_assoc label _ _) (and_then (signed_kept label f c.put_value.ensures.puts) c.put_number.ensures.puts)
