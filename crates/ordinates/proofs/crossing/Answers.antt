use mathlib.Core.Path.{sym}
use Rattle.ordinates.proofs.Pieces.{none_crossing}
use Rattle.ordinates.proofs.crossing.Goals as goal

pub returns-then-crossings-eq0 : goal.returns-then-crossings-eq0
returns-then-crossings-eq0 c = sym (none_crossing _ _ (c.crossings.ensures c.if-crossings-eq0.true))
