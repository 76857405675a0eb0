use mathlib.Core.Path.{◌≡◌}
use lib.Dec.{ltb}
use lib.IntN.{pos, ◌*ℤ◌}
use Rattle.sets.specs.Sets.{value_at, number_at, factor_by_rank}
use Rattle.exact.proofs.Filled.{FilledTo}
use Rattle.sets.proofs.Groups.{Gathered}
use Rattle.sets.proofs.Ranking.beside.Given as goal

abbrev pub invariant-loop-i : goal.invariant-loop-i
invariant-loop-i l =
    let r = l.self in
    let f = factor_by_rank r.q (number_at r.ranks) (value_at r.hn) l.o in
    Gathered l.i (λ k. ltb 0 (f k)) (λ k. pos (f k) *ℤ value_at r.hn k) l.group × FilledTo (λ k x. x ≡ f k) 10 0 l.i l.factors
