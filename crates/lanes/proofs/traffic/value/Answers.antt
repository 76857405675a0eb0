use mathlib.Core.Path.{◌≡◌, refl, ◌∙◌, ap}
use Prim.Native.Nat.{◌*◌}
use native.Mathlib.Omega.{arith}
use lib.Dec.{lit<}
use lib.IntN.{ℤ, pos, ◌*ℤ◌}
use mir.Syntax.{w64}
use Rattle.exact.specs.Questions.{rounded}
use Rattle.exact.proofs.Bounds.{within_le}
use Rattle.exact.proofs.Held.{arg, nat, lit, back, times, times! }
use Rattle.exact.proofs.Rounding.{quotient_near}
use Rattle.model.specs.Traffic.{effect_of}
use Rattle.lanes.proofs.traffic.value.Goals as goal

pub overflow_mul-x-2 : goal.overflow_mul-x-2
overflow_mul-x-2 c =
    let dynamic = nat w64 1300 {n = c.args.dynamic} (omega arith) (omega arith) in
    times! (lit w64 3 (lit< tt)) (times dynamic (arg c.ranges.sum c.requires.4) (lit< tt)) (lit< tt)

pub returns : goal.returns
unfolding effect_of
returns c =
    let q = c.args.q in
    let unit = 800000 * c.args.d in
    let dynamic = nat w64 1300 {n = c.args.dynamic} (omega arith) (omega arith) in
    let scaled = times dynamic (arg c.ranges.sum c.requires.4) (lit< tt) in
    let x = times (lit w64 3 (lit< tt)) scaled (lit< tt) in
    let e : c.rounded.result ≡ rounded q (pos 3 *ℤ (pos c.args.dynamic *ℤ c.args.sum)) unit = c.rounded.ensures ∙ ap (λ (z : ℤ). rounded q z unit) x.is in
    rw (back w64 c.rounded.type_inv e) (refl, quotient_near q _ unit (omega arith) (within_le x.near (omega arith)))
