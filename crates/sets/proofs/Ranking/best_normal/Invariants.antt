use Rattle.sets.specs.Sets.{value_at, number_at, FirstAt}
use Rattle.sets.proofs.Best.{BestTo, first_sum}
use Rattle.sets.proofs.Ranking.best_normal.Given as goal

abbrev pub invariant-loop-m : goal.invariant-loop-m
invariant-loop-m l = let r = l.self in BestTo r.q (FirstAt r.n (number_at r.ranks) (value_at r.hn)) (first_sum r.n (value_at r.hn) r.ranks) l.m l.best
