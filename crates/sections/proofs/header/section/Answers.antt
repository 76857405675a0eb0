use mathlib.Core.Path.{◌≡◌, refl, ap}
use Prim.Native.Nat.{ℕ, ◌*◌, ◌-◌}
use native.Mathlib.Omega.{arith}
use lib.ListN.{take, drop}
use Rattle.model.specs.Format.{words, section}
use Rattle.model.specs.declared.Part.TheVariants.{Head}
use Rattle.sections.proofs.header.section.Goals as goal

pub returns : goal.returns
unfolding section
returns c =
    let e : 4 * c.size.result - 0 ≡ 4 * words c.args.head Head = omega (arith, c.size.ensures.0 c.args.head refl) in
    ap (λ (k : ℕ). take k (drop 0 c.args.s.now)) e
