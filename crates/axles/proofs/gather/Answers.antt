use native.Mathlib.Omega.{arith}
use Rattle.axles.proofs.Trains.{firsts_padded}
use Rattle.axles.proofs.gather.Goals as goal

pub returns : goal.returns
returns c = grind (arith, firsts_padded 12 c.min-first.result c.args.train.now c.min-first.ensures, c.copy_from_slice.ensures.after)
