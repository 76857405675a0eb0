use mathlib.Core.Path.{◌≡◌, refl, sym, subst}
use native.Mathlib.Omega.{arith}
use lib.Dec.{lit<}
use lib.IntN.{ℤ, ◌*ℤ◌}
use mir.Syntax.{w64}
use mir.Val.{SFits, to_z, of_z}
use Rattle.exact.specs.Bounds.{Within}
use Rattle.exact.proofs.Bounds.{within_fits}
use Rattle.exact.proofs.Held.{Held, any, nat, retold, does, times, times! }
use Rattle.magnitudes.specs.Magnitudes.{effect_most}
use borrow.Author.Rules.{rules}
use Rattle.omissions.proofs.share_of.Goals as goal

-- an effect's value, as its unit times its number
value : (unit number : ℤ) {v : ℤ} → SFits w64 unit → SFits w64 number → unit *ℤ number ≡ v → Within effect_most v →
    Held w64 (of_z w64 (to_z w64 (of_z w64 unit) *ℤ to_z w64 (of_z w64 number))) effect_most v
value unit number f g e w =
    let near = subst (Within effect_most) (sym e) w in
    retold (does (any f) (any g) ◌*ℤ◌ (within_fits w64 near (lit< tt)) near) e

pub overflow_mul-result-2 : goal.overflow_mul-result-2
overflow_mul-result-2 c =
    let own = c.effect-own in
    let unit : SFits w64 own.result.unit = search rules in
    let number : SFits w64 own.result.number = search rules in
    times! (nat w64 3000 c.requires.4 (omega arith)) (value _ _ unit number own.ensures.value (c.requires.0 c.args.e c.requires.1 c.requires.3)) (lit< tt)

pub returns : goal.returns
returns c =
    let own = c.effect-own in
    let unit : SFits w64 own.result.unit = search rules in
    let number : SFits w64 own.result.number = search rules in
    let product = times (nat w64 3000 c.requires.4 (omega arith)) (value _ _ unit number own.ensures.value (c.requires.0 c.args.e c.requires.1 c.requires.3)) (lit< tt) in
    rw product.is (record { value = refl; optional = own.ensures.optional; bit = c.bit_of.ensures; first = c.requires.1; near = product.near })
