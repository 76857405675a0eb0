use Rattle.sets.specs.Sets.{value_at, OverloadAt}
use Rattle.sets.proofs.Best.{BestTo, held, held_sum}
use Rattle.sets.proofs.Ranking.best_overload.Given as goal

abbrev pub invariant-loop-o : goal.invariant-loop-o
invariant-loop-o l =
    let r = l.self in
    let v = value_at r.hn in
    BestTo r.q (λ o. OverloadAt r.n (held r.q v r.ranks o) v (value_at l.ho o) o) (held_sum r.q r.n v (value_at l.ho) r.ranks) l.o l.best
