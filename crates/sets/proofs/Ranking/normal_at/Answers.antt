use mathlib.Core.Path.{refl, ◌∙◌, ap₂}
use Prim.Native.Nat.{ℕ}
use lib.Dec.{lit<}
use lib.IntN.{ℤ, ◌*ℤ◌}
use mir.Syntax.{w64}
use Rattle.exact.proofs.Held.{known, got, times}
use Rattle.exact.proofs.Ranges.{count_cong}
use Rattle.model.specs.Lanes.{reduction}
use Rattle.model.proofs.Sets.{ones_count}
use Rattle.exact.proofs.Filled.{get_or_nothing}
use Rattle.sets.proofs.Ranking.normal_at.Goals as goal

pub returns : goal.returns
returns c =
    let f = c.first_lanes-group.ensures in
    let n = c.args.self.now.n in
    let r = got w64 c.reduction.type_inv c.reduction.ensures in
    let sum = known w64 f.near (lit< tt) in
    record {
      lane = refl;
      small = f.small;
      bits = f.bits;
      none = λ i. get_or_nothing 10 i 0;
      value = (times r sum (lit< tt)).is ∙ ap₂ (λ (m : ℕ) (x : ℤ). reduction m *ℤ x) (ones_count n _ f.small ∙ count_cong n _ _ f.bits) f.sum;
    }
