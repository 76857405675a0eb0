use mathlib.Core.Path.{◌≡◌}
use mathlib.Core.Bool.{true}
use Prim.Native.Nat.{◌-◌}
use lib.IntN.{neg_ℤ}
use Rattle.exact.specs.Choice.{between}
use Rattle.words.specs.Words.{word_at}
use Rattle.limits.proofs.Scans.{Tally}
use Rattle.ordinates.proofs.strays.Given as goal

abbrev pub invariant-loop-k : goal.invariant-loop-k
invariant-loop-k l = Tally (λ j. between (neg_ℤ l.m) l.m (word_at l.s j) ≡ true) l.sum l.k

abbrev pub decreases-loop-k : goal.decreases-loop-k
decreases-loop-k l = l.k-end - l.k
