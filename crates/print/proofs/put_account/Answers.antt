use Rattle.buffer.proofs.Stores.{and_then}
use Rattle.print.proofs.put_account.Goals as goal

pub returns-clause-puts : goal.returns-clause-puts
returns-clause-puts c =
    let traffic = and_then c.put_traffic.ensures.puts c.put_traffic-2.ensures.puts in
    and_then (and_then traffic c.put_state.ensures.puts) c.put_state-2.ensures.puts
