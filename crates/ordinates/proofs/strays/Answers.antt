use mathlib.Core.Path.{◌≡◌, subst}
use mathlib.Core.Bool.{true}
use native.Mathlib.Omega.{arith}
use lib.IntN.{ℤ, neg_ℤ}
use mir.Syntax.{w32}
use Rattle.exact.specs.Choice.{between}
use mir.Val.{to_z, of_z}
use Rattle.exact.proofs.Held.{any, arg, back, told}
use Rattle.words.specs.Words.{word_at}
use Rattle.limits.proofs.Scans.{tally_begins, tally_more}
use Rattle.ordinates.proofs.strays.Goals as goal

pub outside-sum-requires : goal.outside-sum-requires
outside-sum-requires c = (told (arg c.ranges.m c.requires.1)).1

pub overflow_add-sum : goal.overflow_add-sum
overflow_add-sum c = omega (arith, c.loop-k.invariant.small, c.outside-sum.ensures.0)

pub loop-k-preserved : goal.loop-k-preserved
loop-k-preserved c =
    let m = to_z w32 (of_z w32 c.args.m) in
    tally_more c.loop-k.invariant
    (c.outside-sum.ensures.0, λ e. subst (λ (x : ℤ). between (neg_ℤ m) m x ≡ true) (back w32 c.word32.type_inv c.word32.ensures) (c.outside-sum.ensures.1 e))

pub returns : goal.returns
returns c =
    λ e k h. subst (λ (m : ℤ). between (neg_ℤ m) m (word_at c.args.s.now k) ≡ true) (any c.ranges.m).is (c.loop-k.invariant.clear e k (omega arith))

pub loop-k-init : goal.loop-k-init
loop-k-init c = tally_begins
