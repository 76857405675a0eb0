use mathlib.Core.Path.{refl}
use Rattle.host.proofs.hnho_layout.Goals as goal

pub returns : goal.returns
returns c = refl
