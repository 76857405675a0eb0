use mathlib.Core.Path.{◌≡◌, subst}
use mathlib.Core.List.{List}
use Prim.Native.Nat.{ℕ, ◌<◌}
use native.Mathlib.Omega.{arith}
use lib.Dec.{lit<}
use lib.IntN.{ℤ}
use mir.Syntax.{w64}
use Rattle.exact.specs.Bounds.{Within}
use Rattle.exact.proofs.Bounds.{within_le}
use Rattle.exact.proofs.Held.{Kept, known}
use Rattle.sets.specs.Sets.{value_at, OverloadAt}
use Rattle.magnitudes.specs.Magnitudes.{ho_lane_most, among}
use Rattle.sets.proofs.Reduced.{among_most}
use Rattle.sets.proofs.Best.{BestTo, best_more, held, held_sum, overload_right}
use Rattle.sets.proofs.Ranking.best_overload.Goals as goal

-- HO is near enough in every lane
abbrev heavy : {n : ℕ} (ho : List ℤ) → ((i : ℕ) → i < n → Within (among n ho_lane_most) (value_at ho i)) → (i : ℕ) → i < n → Kept w64 ho_lane_most (value_at ho i)
heavy {n} ho near i h = (_, known w64 (within_le (near i h) (among_most n ho_lane_most)) (lit< tt))

pub loop-o-preserved : goal.loop-o-preserved
loop-o-preserved c =
    let r = c.args.self.now in
    let l = c.loop-o in
    let x = c.overload_at in
    let v = value_at r.hn in
    best_more _ _ _ (λ j r a. a.value) l.o l.best x.result c.better-best.result l.invariant
    (subst (λ (z : ℤ). OverloadAt r.n (held r.q v r.ranks l.o) v z l.o x.result) (heavy c.args.ho c.requires.1 l.o (omega arith)).1.is x.ensures) c.better-best.ensures

pub returns : goal.returns
returns c =
    let r = c.args.self.now in
    let l = c.loop-o in
    let v = value_at r.hn in
    let ho = value_at c.args.ho in
    let all : l.o ≡ r.n = omega (arith, c.requires.0) in
    overload_right r.q r.n v ho r.fits.few r.fits.values r.ranks r.fits.ranked c.requires.1 l.best
    (subst (λ (m : ℕ). BestTo r.q (λ o. OverloadAt r.n (held r.q v r.ranks o) v (ho o) o) (held_sum r.q r.n v ho r.ranks) m l.best) all l.invariant)
