use Rattle.buffer.proofs.Stores.{and_then}
use Rattle.decimal.proofs.put_number.Goals as goal

pub returns-clause-puts : goal.returns-clause-puts
returns-clause-puts c = and_then c.put.ensures c.put_decimal.ensures.puts
