use mathlib.Core.Path.{sym}
use native.Mathlib.Omega.{arith}
use Rattle.model.proofs.Dynamic.{to_121, from_120}
use Rattle.dynamic.proofs.of_span.Goals as goal

-- the level part may end at 119, 120 or 121 dm
pub returns-then-span-le120 : goal.returns-then-span-le120
returns-then-span-le120 c = sym (to_121 _ (omega (arith, c.if-span-le120.true)))

pub returns : goal.returns
returns c = sym (from_120 _ (omega (arith, c.if-span-le120.false)))
