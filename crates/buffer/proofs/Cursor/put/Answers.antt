use mathlib.Core.Path.{refl}
use native.Mathlib.Omega.{arith}
use Rattle.buffer.proofs.Stores.{stores}
use Rattle.buffer.proofs.Parts.{part}
use Rattle.buffer.proofs.Cursor.put.Goals as goal

pub returns : goal.returns
returns c = stores refl (part c.copy.ensures refl (omega arith))
