use Rattle.numbers.proofs.Stores.{and_then, natural}
use Rattle.placements.proofs.put_lane.Goals as goal

pub returns : goal.returns
returns c = and_then (and_then (natural c.from.ensures.0 c.put_count.ensures) c.put_count-2.ensures) c.put_count-3.ensures
