use mathlib.Core.Path.{refl}
use native.Mathlib.Omega.{arith}
use Rattle.buffer.proofs.Stores.{stores}
use Rattle.buffer.proofs.Parts.{part_zeros}
use Rattle.buffer.proofs.Cursor.put_zeros.Goals as goal

pub returns : goal.returns
returns c = stores refl (part_zeros c.args.n (c.fill.ensures.after (λ y e. e)) (omega arith))
