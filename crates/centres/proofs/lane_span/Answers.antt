use Prim.Native.Nat.{◌<◌}
use native.Mathlib.Omega.{arith}
use Rattle.exact.specs.declared.Question.TheVariants.{Greatest, Least}
use Rattle.exact.proofs.Extremes.{by_question}
use Rattle.centres.proofs.LaneLimits.{limits, centre_right}
use Rattle.centres.proofs.lane_span.Goals as goal

pub overflow_mul-lo : goal.overflow_mul-lo
overflow_mul-lo c = let r = c.requires in omega (arith, limits r.transverse_fits r.n_value r.i_lt_n)

pub overflow_mul-lo-2 : goal.overflow_mul-lo-2
overflow_mul-lo-2 c = let r = c.requires in omega (arith, limits r.transverse_fits r.n_value r.i_lt_n)

pub overflow_add-lo : goal.overflow_add-lo
overflow_add-lo c = let r = c.requires in omega (arith, limits r.transverse_fits r.n_value r.i_lt_n)

pub overflow_mul-hi : goal.overflow_mul-hi
overflow_mul-hi c = let r = c.requires in omega (arith, limits r.transverse_fits r.n_value r.i_lt_n)

pub overflow_mul-hi-2 : goal.overflow_mul-hi-2
overflow_mul-hi-2 c = let r = c.requires in omega (arith, limits r.transverse_fits r.n_value r.i_lt_n)

pub overflow_sub-hi : goal.overflow_sub-hi
overflow_sub-hi c = let r = c.requires in omega (arith, limits r.transverse_fits r.n_value r.i_lt_n)

pub overflow_mul-n : goal.overflow_mul-n
overflow_mul-n c = let r = c.requires in omega (arith, limits r.transverse_fits r.n_value r.i_lt_n)

pub overflow_mul-n-2 : goal.overflow_mul-n-2
overflow_mul-n-2 c = let r = c.requires in omega (arith, limits r.transverse_fits r.n_value r.i_lt_n)

pub best-requires : goal.best-requires
best-requires c =
    let r = c.requires in
    let b = limits r.transverse_fits r.n_value r.i_lt_n in
    record { d_nonzero = b.apart; d_bound = b.close; lo_le_hi = b.order; ordinates_to = b.ordinates; hi_bound = omega arith }

pub best-requires-2 : goal.best-requires-2
best-requires-2 c =
    let r = c.requires in
    let b = limits r.transverse_fits r.n_value r.i_lt_n in
    record { d_nonzero = b.apart; d_bound = b.close; lo_le_hi = b.order; ordinates_to = b.ordinates; hi_bound = omega arith }

pub returns : goal.returns
returns c =
    let r = c.requires in
    let spaced : 0 < c.args.g = omega (arith, r.transverse_fits) in
    let b = limits r.transverse_fits r.n_value r.i_lt_n in
    record { each = by_question _ (centre_right Greatest r.n_value spaced b.order c.best.ensures) (centre_right Least r.n_value spaced b.order c.best-2.ensures) }
