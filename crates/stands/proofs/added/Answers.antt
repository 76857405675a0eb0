use mathlib.Core.Path.{◌≡◌, ◌∙◌, ap}
use Prim.Native.Nat.{ℕ, ◌^◌, ◌<◌}
use native.Mathlib.Omega.{arith}
use lib.Dec.{lit<}
use lib.IntN.{ℤ, pos, ◌*ℤ◌}
use lib.Signed.{mag}
use mir.Syntax.{w64}
use mir.Val.{of_z}
use Rattle.exact.specs.Bounds.{Within}
use Rattle.exact.specs.declared.Question.{Question}
use Rattle.exact.specs.declared.Question.TheVariants.{Greatest, Least}
use Rattle.exact.proofs.Held.{Held, arg, known, nat, got, told, retold, cast, plus, plus!, times}
use Rattle.magnitudes.specs.Magnitudes.{axle_most}
use Rattle.model.specs.Trains.{counted}
use Rattle.model.specs.declared.Mode.{Mode}
use Rattle.stands.proofs.Counting.{counted_scale}
use Rattle.stands.proofs.added.Goals as goal

-- what counts of an axle's effect x, by what the code asked
share : (mode : Mode) (q : Question) (load : ℕ) (y : ℤ) {x r : ℤ} → x ≡ pos load *ℤ y → mag r < 2 ^ 63 → (r ≡ counted mode q x) × Within axle_most r → Held w64 (of_z w64 r) axle_most (pos load *ℤ counted mode q y)
share mode q load y is ok e = retold (got w64 ok e) (ap (counted mode q) is ∙ counted_scale mode q load y)

pub overflow_add-result : goal.overflow_add-result
overflow_add-result c =
    let a = c.args in
    let effect = times (nat w64 400 c.requires.0 (omega (arith, c.requires.0))) (cast (arg c.ranges.ordinate c.requires.1) w64 (lit< tt)) (lit< tt) in
    plus! (known w64 (c.requires.2 Greatest) (lit< tt)) (share a.mode Greatest a.load a.ordinate effect.is c.counted.type_inv c.counted.ensures) (lit< tt)

pub counted-requires : goal.counted-requires
counted-requires c = (told (times (nat w64 400 c.requires.0 (omega (arith, c.requires.0))) (cast (arg c.ranges.ordinate c.requires.1) w64 (lit< tt)) (lit< tt))).1

pub counted-requires-2 : goal.counted-requires-2
counted-requires-2 c = (told (times (nat w64 400 c.requires.0 (omega (arith, c.requires.0))) (cast (arg c.ranges.ordinate c.requires.1) w64 (lit< tt)) (lit< tt))).1

pub overflow_add-result-2 : goal.overflow_add-result-2
overflow_add-result-2 c =
    let a = c.args in
    let effect = times (nat w64 400 c.requires.0 (omega (arith, c.requires.0))) (cast (arg c.ranges.ordinate c.requires.1) w64 (lit< tt)) (lit< tt) in
    plus! (known w64 (c.requires.2 Least) (lit< tt)) (share a.mode Least a.load a.ordinate effect.is c.counted-2.type_inv c.counted-2.ensures) (lit< tt)

pub returns : goal.returns
returns c Greatest =
    let a = c.args in
    let effect = times (nat w64 400 c.requires.0 (omega (arith, c.requires.0))) (cast (arg c.ranges.ordinate c.requires.1) w64 (lit< tt)) (lit< tt) in
    (plus (known w64 (c.requires.2 Greatest) (lit< tt)) (share a.mode Greatest a.load a.ordinate effect.is c.counted.type_inv c.counted.ensures) (lit< tt)).is
returns c Least =
    let a = c.args in
    let effect = times (nat w64 400 c.requires.0 (omega (arith, c.requires.0))) (cast (arg c.ranges.ordinate c.requires.1) w64 (lit< tt)) (lit< tt) in
    (plus (known w64 (c.requires.2 Least) (lit< tt)) (share a.mode Least a.load a.ordinate effect.is c.counted-2.type_inv c.counted-2.ensures) (lit< tt)).is
