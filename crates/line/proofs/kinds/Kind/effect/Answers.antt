use native.Mathlib.Omega.{arith}
use lib.Dec.{lit<}
use mir.Syntax.{w16, w64}
use Rattle.exact.proofs.Bounds.{within_pos}
use Rattle.exact.proofs.Held.{told, ret, known, cast, plus, plus!, times}
use Rattle.line.specs.Sought.{kind_of}
use Rattle.line.proofs.Results.{kind_effect, axle_near, axle_few}
use Rattle.line.proofs.kinds.Kind.effect.Goals as goal

pub overflow_add-result : goal.overflow_add-result
overflow_add-result c =
    let few = axle_few c.args.self in
    let load = times (ret w64 c.uniform.type_inv c.uniform.ensures (within_pos 7 (omega arith))) (known w64 c.requires.area (lit< tt)) (lit< tt) in
    let axles = times (ret w64 c.axle.type_inv c.axle.ensures (axle_near c.args.self)) (cast (known w16 c.requires.pair (lit< tt)) w64 (lit< tt)) (omega (arith, few)) in
    plus! load axles (omega (arith, few))

pub returns : goal.returns
returns c =
    let few = axle_few c.args.self in
    let load = times (ret w64 c.uniform.type_inv c.uniform.ensures (within_pos 7 (omega arith))) (known w64 c.requires.area (lit< tt)) (lit< tt) in
    let axles = times (ret w64 c.axle.type_inv c.axle.ensures (axle_near c.args.self)) (cast (known w16 c.requires.pair (lit< tt)) w64 (lit< tt)) (omega (arith, few)) in
    kind_effect (kind_of c.args.self) c.args.s (told (plus load axles (omega (arith, few))))
