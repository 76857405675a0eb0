use Rattle.numbers.proofs.Stores.{zeros}
use Rattle.numbers.proofs.put_zeros.Goals as goal

pub returns : goal.returns
returns c = zeros c.args.n c.put_zeros.ensures
