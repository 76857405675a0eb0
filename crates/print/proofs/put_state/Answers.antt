use mathlib.Core.Path.{sym, ap}
use Rattle.buffer.proofs.Stores.{and_then, retold}
use Rattle.print.specs.Text.{state_line}
use Rattle.print.proofs.put_state.Goals as goal

pub returns-in-None-clause-puts : goal.returns-in-None-clause-puts
returns-in-None-clause-puts c =
    retold (ap (state_line _) (sym c.in-None.is)) (and_then c.put.ensures c.put-in-None.ensures)

pub returns-in-Some-clause-puts : goal.returns-in-Some-clause-puts
returns-in-Some-clause-puts c =
    let both = and_then c.put_governing.ensures.puts c.put_governing-in-Some.ensures.puts in
    retold (ap (state_line _) (sym c.in-Some.is)) (and_then c.put.ensures (and_then both c.put-in-Some.ensures))
