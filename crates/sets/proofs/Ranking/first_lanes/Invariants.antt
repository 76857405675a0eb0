use lib.Dec.{ltb}
use Rattle.sets.specs.Sets.{value_at, number_at}
use Rattle.sets.proofs.Groups.{Gathered}
use Rattle.sets.proofs.Ranking.first_lanes.Given as goal

abbrev pub invariant-loop-i : goal.invariant-loop-i
invariant-loop-i l = Gathered l.i (λ k. ltb (number_at l.self.ranks k) l.m) (value_at l.self.hn) l.group
