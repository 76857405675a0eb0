use mathlib.Core.Path.{refl, ◌∙◌, ap}
use lib.Dec.{lit<}
use lib.IntN.{ℤ, pos, ◌+ℤ◌, ◌*ℤ◌}
use mir.Syntax.{w64}
use Rattle.exact.proofs.Held.{arg, lit, known, plus, times}
use Rattle.model.specs.Traffic.{overload_sum}
use Rattle.sets.proofs.Ranking.overload_at.Goals as goal

pub returns : goal.returns
unfolding overload_sum
returns c =
    let b = c.beside.ensures in
    let heavy = times (lit w64 20 (lit< tt)) (arg c.ranges.ho c.requires.1) (lit< tt) in
    let rest = known w64 b.near (lit< tt) in
    record {
      lane = refl;
      small = b.small;
      bits = b.bits;
      factors = b.factors;
      past = b.past;
      value = (plus heavy rest (lit< tt)).is ∙ ap (λ (z : ℤ). pos 20 *ℤ c.args.ho +ℤ z) b.sum;
    }
