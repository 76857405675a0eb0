use mathlib.Core.Path.{◌∙◌, ap}
use native.Mathlib.Omega.{arith}
use lib.IntN.{ℤ, pos}
use mir.Syntax.{w64}
use Rattle.exact.specs.Bounds.{Within}
use Rattle.exact.specs.Questions.{better}
use Rattle.exact.proofs.Bounds.{within_pos}
use Rattle.exact.proofs.Extremes.{better_ind, better_number}
use Rattle.exact.proofs.Held.{arg, ret, told}
use Rattle.magnitudes.specs.Magnitudes.{axle_most}
use Rattle.stands.proofs.counted.Goals as goal

pub returns-in-NoRelief : goal.returns-in-NoRelief
returns-in-NoRelief c =
    let e = c.better.ensures ∙ better_number c.args.q _ _ ∙ ap (λ (x : ℤ). better c.args.q x (pos 0)) (arg c.ranges.x c.requires).is in
    rw c.in-NoRelief.is (told (ret w64 c.better.type_inv e (better_ind c.args.q (Within axle_most) c.args.x (pos 0) c.requires (within_pos axle_most (omega arith)))))
