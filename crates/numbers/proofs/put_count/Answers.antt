use mathlib.Core.Path.{refl}
use lib.IntN.{pos}
use Rattle.numbers.proofs.Stores.{one}
use Rattle.numbers.proofs.put_count.Goals as goal

pub returns : goal.returns
returns c = one (pos c.args.x) (record { sfits = c.requires.x_bound }) refl c.put_number.ensures
