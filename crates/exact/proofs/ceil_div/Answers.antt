use mathlib.Core.Path.{◌≡◌, sym, ◌∙◌}
use lib.IntN.{pos, ◌+ℤ◌}
use lib.Signed.{quot_z}
use Rattle.exact.specs.Rounding.{ceil_div}
use Rattle.exact.specs.declared.Question.TheVariants.{Greatest}
use Rattle.exact.proofs.Tests.{lt_z_true, lt_z_false}
use Rattle.exact.proofs.Held.{lt_yes, lt_no}
use Rattle.exact.proofs.Rounding.{ceil_of_quot}
use Rattle.exact.proofs.Divide.{X, Q, P, quotient!, product!, step!, step}
use Rattle.exact.proofs.ceil_div.Goals as goal

stepped : (c : goal.Then-q-w) → ceil_div c.args.x c.args.d ≡ quot_z c.args.x (pos c.args.d) +ℤ pos 1
stepped c =
    (ceil_of_quot c.args.x c.args.d c.requires).0 (lt_z_true _ _ (lt_yes (P c.ranges.x c.ranges.d).1 (X c.ranges.x c.ranges.d).1 c.if-q-w.true))

pub nonzero_div-q : goal.nonzero_div-q
nonzero_div-q c = (c.requires, quotient! c.ranges.x c.ranges.d)

pub overflow_add-result : goal.overflow_add-result
overflow_add-result c = step! c.ranges.x c.ranges.d Greatest ◌+ℤ◌ (stepped c)

pub returns-then-q-w : goal.returns-then-q-w
returns-then-q-w c = step c.ranges.x c.ranges.d Greatest ◌+ℤ◌ (stepped c)

pub returns-else-q-w : goal.returns-else-q-w
returns-else-q-w c =
    (Q c.ranges.x c.ranges.d).1.is
    ∙ sym ((ceil_of_quot c.args.x c.args.d c.requires).1 (lt_z_false _ _ (lt_no (P c.ranges.x c.ranges.d).1 (X c.ranges.x c.ranges.d).1 c.if-q-w.false)))

pub overflow_mul-q : goal.overflow_mul-q
overflow_mul-q c = product! c.ranges.x c.ranges.d
