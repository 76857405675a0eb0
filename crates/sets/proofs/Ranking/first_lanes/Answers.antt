use native.Mathlib.Omega.{arith}
use native.Mathlib.Nat.{lt_of_lt_of_le}
use mathlib.Core.Path.{◌≡◌, refl, subst}
use Prim.Native.Nat.{ℕ}
use lib.Dec.{ltb, lit<, lit≤}
use lib.Pow.{pow_mono}
use mir.Syntax.{w64}
use Rattle.exact.proofs.Held.{known, told}
use Rattle.exact.proofs.Bounds.{within_le}
use Rattle.magnitudes.specs.Magnitudes.{hn_lane_most, factored_most}
use Rattle.sets.specs.Sets.{value_at, number_at}
use Rattle.sets.proofs.Reduced.{values_near}
use Rattle.sets.proofs.Groups.{Gathered, gathered_more, gathered_small, gathered_bits, gathered_near}
use Rattle.sets.proofs.Ranking.first_lanes.Goals as goal

pub joined-group-requires : goal.joined-group-requires
joined-group-requires c =
    let l = c.loop-i in
    let g = l.invariant in
    let fits = c.args.self.now.fits in
    let near = values_near fits.values in (
      omega arith,
      lt_of_lt_of_le (gathered_small g) (pow_mono {i = l.i} {j = 10} (omega arith)),
      gathered_near g factored_most 9 (λ k h. within_le (near k (omega arith)) (lit≤ tt)) (omega arith),
      within_le (told (known w64 (near l.i (omega arith)) (lit< tt))).1 (lit≤ tt),
    )

pub loop-i-preserved : goal.loop-i-preserved
loop-i-preserved c =
    let l = c.loop-i in
    gathered_more _ _ l.invariant refl (known w64 (values_near c.args.self.now.fits.values l.i (omega arith)) (lit< tt)).is c.joined-group.ensures

pub returns : goal.returns
returns c =
    let l = c.loop-i in
    let r = c.args.self.now in
    let all : l.i ≡ r.n = omega arith in
    let g = subst (λ (i : ℕ). Gathered i (λ k. ltb (number_at r.ranks k) c.args.m) (value_at r.hn) l.group) all l.invariant in
    record { small = gathered_small g; bits = gathered_bits g; sum = g.sum; near = gathered_near g hn_lane_most 10 (values_near r.fits.values) r.fits.few }
