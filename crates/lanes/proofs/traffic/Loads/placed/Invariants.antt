use mathlib.Core.Path.{◌≡◌}
use Rattle.exact.proofs.Filled.{FilledTo}
use Rattle.model.specs.Answered.{empty_lane}
use Rattle.lanes.specs.Entries.{chosen_in}
use Rattle.lanes.specs.Loadings.{lane_of}
use Rattle.lanes.proofs.traffic.Loads.placed.Given as goal

abbrev pub invariant-loop-i : goal.invariant-loop-i
invariant-loop-i l = let s = l.self in FilledTo (λ k x. x ≡ lane_of l.best k (chosen_in s.q s.across s.hn k) (chosen_in s.q s.across s.ho k)) 10 empty_lane l.i l.lanes
