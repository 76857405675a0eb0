use mathlib.Core.Path.{ap, ap₂}
use native.Mathlib.Omega.{arith}
use lib.Dec.{lit<}
use lib.IntN.{ℤ, pos}
use mir.Syntax.{w64}
use Rattle.exact.proofs.Held.{known, nat, retold, times}
use Rattle.lanes.proofs.entries.effects_in.Goals as goal

pub returns : goal.returns
returns c =
    let own = c.requires.0.own in
    let m = retold (nat w64 5 c.other_lanes-m.ensures.1 (omega arith)) (ap pos c.other_lanes-m.ensures.0) in
    ap₂ (λ (x y : ℤ). record { raising = x; lowering = y }) (times m (known w64 own.raising (lit< tt)) (lit< tt)).is (times m (known w64 own.lowering (lit< tt)) (lit< tt)).is
