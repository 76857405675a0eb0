use mathlib.Core.Path.{◌≡◌, sym, ◌∙◌}
use lib.IntN.{pos, ◌-ℤ◌}
use lib.Signed.{quot_z}
use Rattle.exact.specs.Rounding.{floor_div}
use Rattle.exact.specs.declared.Question.TheVariants.{Least}
use Rattle.exact.proofs.Tests.{lt_z_true, lt_z_false}
use Rattle.exact.proofs.Held.{lt_yes, lt_no}
use Rattle.exact.proofs.Rounding.{floor_of_quot}
use Rattle.exact.proofs.Divide.{X, Q, P, quotient!, product!, step!, step}
use Rattle.exact.proofs.floor_div.Goals as goal

stepped : (c : goal.Then-x-q) → floor_div c.args.x c.args.d ≡ quot_z c.args.x (pos c.args.d) -ℤ pos 1
stepped c =
    (floor_of_quot c.args.x c.args.d c.requires).0 (lt_z_true _ _ (lt_yes (X c.ranges.x c.ranges.d).1 (P c.ranges.x c.ranges.d).1 c.if-x-q.true))

pub nonzero_div-q : goal.nonzero_div-q
nonzero_div-q c = (c.requires, quotient! c.ranges.x c.ranges.d)

pub overflow_sub-result : goal.overflow_sub-result
overflow_sub-result c = step! c.ranges.x c.ranges.d Least ◌-ℤ◌ (stepped c)

pub returns-then-x-q : goal.returns-then-x-q
returns-then-x-q c = step c.ranges.x c.ranges.d Least ◌-ℤ◌ (stepped c)

pub returns-else-x-q : goal.returns-else-x-q
returns-else-x-q c =
    (Q c.ranges.x c.ranges.d).1.is
    ∙ sym ((floor_of_quot c.args.x c.args.d c.requires).1 (lt_z_false _ _ (lt_no (X c.ranges.x c.ranges.d).1 (P c.ranges.x c.ranges.d).1 c.if-x-q.false)))

pub overflow_mul-q : goal.overflow_mul-q
overflow_mul-q c = product! c.ranges.x c.ranges.d
