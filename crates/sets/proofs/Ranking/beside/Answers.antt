use Rattle.std.specs.Prelude.{if◌then◌else◌}
use native.Mathlib.Omega.{arith}
use native.Mathlib.Nat.{lt_of_lt_of_le}
use mathlib.Core.Path.{◌≡◌, refl, ◌∙◌, ap, subst}
use Prim.Native.Nat.{ℕ, ◌≤◌}
use lib.Dec.{ltb, lit<}
use lib.IntN.{ℤ, pos, ◌*ℤ◌}
use lib.Pow.{pow_mono}
use mir.Syntax.{w64}
use borrow.Author.Tests.{ltb-false}
use Rattle.exact.specs.Bounds.{Within}
use Rattle.exact.proofs.Held.{Kept, known, told, retold, nat, times}
use Rattle.exact.proofs.Bounds.{within_pos, within_mul}
use Rattle.exact.proofs.Bridge.{by_test}
use Rattle.exact.proofs.Ranges.{sum_cong}
use Rattle.exact.proofs.Ring.{◌⊗◌, lit, ◌≐◌, solve}
use Rattle.magnitudes.specs.Magnitudes.{hn_lane_most, factored_most}
use Rattle.sets.specs.Sets.{value_at, number_at, factor_by_rank}
use Rattle.sets.proofs.Reduced.{values_near}
use Rattle.sets.proofs.Factors.{factor_top}
use Rattle.exact.proofs.Filled.{filled_more}
use Rattle.sets.proofs.Groups.{Gathered, gathered_more, gathered_small, gathered_bits, gathered_near}
use Rattle.sets.proofs.Ranking.beside.Goals as goal

-- at a factor of at most 20
lane_near : {f : ℕ} {x : ℤ} → f ≤ 20 → Within hn_lane_most x → Within factored_most (pos f *ℤ x)
lane_near h near = within_mul (within_pos 20 h) near

-- what a lane gives at its factor
abbrev given : {g f : ℕ} {x : ℤ} → g ≡ f → g ≤ 20 → Within hn_lane_most x → Kept w64 factored_most (pos f *ℤ x)
given {g} e h near = (_, times (retold (nat w64 20 {n = g} h (omega arith)) (ap pos e)) (known w64 near (lit< tt)) (lit< tt))

pub joined-group-requires : goal.joined-group-requires
joined-group-requires c =
    let l = c.loop-i in
    let g = l.invariant.0 in
    let fits = c.args.self.now.fits in
    let near = values_near fits.values in (
      omega arith,
      lt_of_lt_of_le (gathered_small g) (pow_mono {i = l.i} {j = 10} (omega arith)),
      gathered_near g factored_most 9 (λ k h. lane_near (factor_top _ _ _ _ k) (near k (omega arith))) (omega arith),
      (told (given c.factor-f.ensures.0 c.factor-f.ensures.1 (near l.i (omega arith))).1).1,
    )

pub loop-i-preserved : goal.loop-i-preserved
loop-i-preserved c =
    let l = c.loop-i in
    let r = c.factor-f.ensures.0 in
    let fits = c.args.self.now.fits in (
      gathered_more _ _ l.invariant.0 (ap (ltb 0) r) (given r c.factor-f.ensures.1 (values_near fits.values l.i (omega arith))).1.is c.joined-group.ensures,
      filled_more _ (omega arith) l.invariant.1 r,
    )

pub returns : goal.returns
returns c =
    let l = c.loop-i in
    let r = c.args.self.now in
    let all : l.i ≡ r.n = omega arith in
    let v = value_at r.hn in
    let f = factor_by_rank r.q (number_at r.ranks) v c.args.o in
    let g = subst (λ (i : ℕ). Gathered i (λ k. ltb 0 (f k)) (λ k. pos (f k) *ℤ v k) l.group) all l.invariant.0 in
    record {
      small = gathered_small g;
      bits = gathered_bits g;
      sum = g.sum ∙ sum_cong r.n _ _ (λ i h. only (f i) (v i));
      near = gathered_near g factored_most 10 (λ k h. lane_near (factor_top _ _ _ _ k) (values_near r.fits.values k h)) r.fits.few;
      factors = λ i h. l.invariant.1.each i (omega arith);
      past = λ i h. l.invariant.1.past i (omega arith);
    }
  where
    only : (f : ℕ) (x : ℤ) → (if ltb 0 f then pos f *ℤ x else pos 0) ≡ pos f *ℤ x
    only f x = by_test (ltb 0 f) (λ t. (if t then pos f *ℤ x else pos 0) ≡ pos f *ℤ x) (λ _. refl) (λ e. let h = ltb-false 0 f e in let z : f ≡ 0 = omega arith in rw z (solve 1 (λ x. lit 0 ≐ lit 0 ⊗ x) tt x))
