use mathlib.Core.Path.{◌≡◌, subst}
use Prim.Native.Nat.{ℕ, ◌+◌, ◌*◌, ◌/◌}
use native.Mathlib.Omega.{arith}
use Rattle.exact.specs.Bounds.{Within}
use Rattle.magnitudes.specs.Magnitudes.{transverse_most}
use Rattle.centres.specs.declared.Centre.{Centre}
use Rattle.centres.specs.Candidates.{BestBefore}
use Rattle.centres.proofs.Ordinates.{ordinates_left, ordinate_between}
use Rattle.exact.proofs.Rounding.{div_mono}
use Rattle.centres.proofs.Candidates.{limits_tried, next_tried}
use Rattle.centres.proofs.best.Goals as goal

pub loop-m-init : goal.loop-m-init
loop-m-init c =
    let a = c.args in
    let p = c.requires.d_nonzero in
    let l = c.requires.lo_le_hi in
    let first = c.centre_at.ensures in
    let last = c.centre_at-2.ensures in
    let h = div_mono p l in (
      omega arith,
      rw (c.better-best.ensures, first.here, last.here)
          (limits_tried a.q a.across.now a.d a.lo a.hi p l (subst (λ (x : Centre). Within transverse_most x.ordinate) first.here first.near) (subst (λ (x : Centre). Within transverse_most x.ordinate) last.here last.near)),
    )

pub centre_at-requires-in-loop-m-clause-ordinates_to : goal.centre_at-requires-in-loop-m-clause-ordinates_to
centre_at-requires-in-loop-m-clause-ordinates_to c =
    let a = c.args in
    let m = c.loop-m.m in
    let p = c.requires.d_nonzero in
    let b = ordinate_between a.d a.lo a.hi m p c.loop-m.invariant.0 c.loop-m-test.true in
    ordinates_left a.across.now a.d (m * a.d) a.hi p b.1 c.requires.ordinates_to

pub loop-m-preserved : goal.loop-m-preserved
loop-m-preserved c =
    let a = c.args in
    let l = c.loop-m in
    let next = c.centre_at-in-loop-m.ensures in
    let b = ordinate_between a.d a.lo a.hi l.m c.requires.d_nonzero l.invariant.0 c.loop-m-test.true in (
      omega arith,
      rw (c.better-best-in-loop-m.ensures, next.here)
          (next_tried a.q a.across.now a.d a.lo a.hi l.m l.best b.0 b.1 (subst (λ (x : Centre). Within transverse_most x.ordinate) next.here next.near) l.invariant.1),
    )

pub returns : goal.returns
returns c =
    let l = c.loop-m in
    let a = c.args in
    let h = div_mono c.requires.d_nonzero c.requires.lo_le_hi in
    let e : l.m ≡ a.hi / a.d + 1 = omega arith in
    subst (λ (m : ℕ). BestBefore a.q a.across.now a.d a.lo a.hi m l.best) e l.invariant.1
