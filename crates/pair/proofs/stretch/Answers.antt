use mathlib.Core.Path.{sym, ◌∙◌}
use native.Mathlib.Omega.{arith}
use mir.Syntax.{w16}
use Rattle.exact.proofs.Held.{got}
use Rattle.pair.proofs.Places.{ranks_more}
use Rattle.pair.proofs.stretch.Goals as goal

pub loop-k-preserved : goal.loop-k-preserved
loop-k-preserved c =
    let l = c.loop-k in
    let ordinates = got w16 c.counted.type_inv c.counted.ensures in
    (omega arith, omega arith, λ f count start. ranks_more f l.k c.ranked-best.ensures (ordinates.is ∙ sym (count l.k l.invariant.0 (omega arith))) (l.invariant.2 f count start))
