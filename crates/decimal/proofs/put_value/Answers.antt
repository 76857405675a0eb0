use mathlib.Core.List.{[]}
use Rattle.buffer.proofs.Stores.{and_then}
use Rattle.decimal.proofs.Signs.{signed_kept}
use Rattle.decimal.proofs.put_value.Goals as goal

pub returns-clause-puts : goal.returns-clause-puts
returns-clause-puts c = and_then c.put.ensures (signed_kept [] c.ranges.v c.put_signed.ensures.puts)
