use mathlib.Core.Path.{◌≡◌, subst}
use Prim.Native.Nat.{ℕ, ◌+◌}
use native.Mathlib.Omega.{arith}
use Rattle.sets.specs.Sets.{value_at, number_at, FirstAt}
use Rattle.sets.proofs.Best.{BestTo, best_more, first_sum, normal_right}
use Rattle.sets.proofs.Ranking.best_normal.Goals as goal

pub loop-m-preserved : goal.loop-m-preserved
loop-m-preserved c =
    let l = c.loop-m in
    let r = c.normal_at in
    best_more _ _ _ (λ j r a. a.value) l.m l.best r.result c.better-best.result l.invariant r.ensures c.better-best.ensures

pub returns : goal.returns
returns c ho =
    let r = c.args.self.now in
    let l = c.loop-m in
    let all : l.m ≡ r.n + 1 = omega arith in
    normal_right r.q r.n (value_at r.hn) ho r.fits.few r.fits.values r.ranks r.fits.ranked l.best (subst (λ (m : ℕ). BestTo r.q (FirstAt r.n (number_at r.ranks) (value_at r.hn)) (first_sum r.n (value_at r.hn) r.ranks) m l.best) all l.invariant)
