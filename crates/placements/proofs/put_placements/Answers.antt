use Rattle.numbers.proofs.Stores.{and_then}
use Rattle.placements.proofs.put_placements.Goals as goal

pub returns : goal.returns
returns c = and_then c.put_placement.ensures c.put_placement-2.ensures
