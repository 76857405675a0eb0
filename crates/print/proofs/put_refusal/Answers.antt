use Rattle.buffer.proofs.Stores.{and_then}
use Rattle.print.proofs.put_refusal.Goals as goal

pub returns-clause-puts : goal.returns-clause-puts
returns-clause-puts c = and_then (and_then c.put_number.ensures.puts c.put_number-2.ensures.puts) c.put.ensures
