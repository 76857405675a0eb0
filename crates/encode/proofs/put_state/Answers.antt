use mathlib.Core.Path.{sym, ap}
use Rattle.encode.specs.Encoding.{limit_numbers}
use Rattle.numbers.proofs.Stores.{and_then, retold}
use Rattle.encode.proofs.put_state.Goals as goal

pub returns-in-Some : goal.returns-in-Some
returns-in-Some c =
    let greatest = and_then c.put_count.ensures c.put_governing.ensures in
    retold (sym (ap limit_numbers c.in-Some.is)) (and_then greatest c.put_governing-in-Some.ensures)
