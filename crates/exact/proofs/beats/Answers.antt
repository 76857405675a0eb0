use mathlib.Core.Path.{sym, ap}
use mir.Facts.{to_z-of_z}
use Rattle.exact.specs.Questions.{beats}
use Rattle.exact.specs.declared.Question.{Question}
use Rattle.exact.proofs.beats.Goals as goal

pub returns-in-Greatest : goal.returns-in-Greatest
returns-in-Greatest c =
    let fx = c.ranges.x in
    let fy = c.ranges.y in
    simp to_z-of_z (sym (ap (λ (q : Question). beats q c.args.x c.args.y) c.in-Greatest.is))

pub returns-in-Least : goal.returns-in-Least
returns-in-Least c =
    let fx = c.ranges.x in
    let fy = c.ranges.y in
    simp to_z-of_z (sym (ap (λ (q : Question). beats q c.args.x c.args.y) c.in-Least.is))
