use mathlib.Core.Path.{◌≡◌, subst}
use mathlib.Core.Bool.{false}
use Prim.Native.Nat.{◌+◌, ◌*◌}
use native.Mathlib.Omega.{arith}
use lib.IntN.{ℤ}
use mir.Syntax.{w32}
use mir.Val.{to_z, of_z}
use Rattle.exact.proofs.Held.{back}
use Rattle.words.specs.Words.{word_at}
use Rattle.model.specs.Refusals.{crosses}
use Rattle.limits.proofs.Scans.{tally_begins, tally_more}
use Rattle.model.specs.Format.{size}
use Rattle.model.specs.declared.Part.TheVariants.{Line}
use Rattle.ordinates.proofs.crossings.Goals as goal

pub overflow_add-sum : goal.overflow_add-sum
overflow_add-sum c = omega (arith, c.loop-i.invariant.small, c.crossed-sum.ensures.0)

pub loop-i-preserved : goal.loop-i-preserved
loop-i-preserved c =
    let s = c.args.s.now in
    let i = c.loop-i.i in
    tally_more c.loop-i.invariant (
      c.crossed-sum.ensures.0,
      λ e. subst (λ (x : ℤ). crosses x (word_at s (size Line * i + 1)) ≡ false) (back w32 c.word32.type_inv c.word32.ensures)
          (subst (λ (y : ℤ). crosses (to_z w32 (of_z w32 c.word32.result)) y ≡ false) (back w32 c.word32-in-loop-i.type_inv c.word32-in-loop-i.ensures) (c.crossed-sum.ensures.1 e)),
    )

pub returns : goal.returns
returns c = λ e i h. c.loop-i.invariant.clear e i (omega arith)

pub loop-i-init : goal.loop-i-init
loop-i-init c = tally_begins
