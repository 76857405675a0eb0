use mathlib.Core.Path.{◌≡◌}
use mathlib.Core.Bool.{false}
use Prim.Native.Nat.{◌+◌, ◌-◌, ◌*◌}
use Rattle.words.specs.Words.{word_at}
use Rattle.model.specs.Refusals.{crosses}
use Rattle.limits.proofs.Scans.{Tally}
use Rattle.model.specs.Format.{size}
use Rattle.model.specs.declared.Part.TheVariants.{Line}
use Rattle.ordinates.proofs.crossings.Given as goal

abbrev pub invariant-loop-i : goal.invariant-loop-i
invariant-loop-i l = Tally (λ j. crosses (word_at l.s (size Line * j)) (word_at l.s (size Line * j + 1)) ≡ false) l.sum l.i

abbrev pub decreases-loop-i : goal.decreases-loop-i
decreases-loop-i l = l.pieces - l.i
