use Rattle.numbers.specs.NumberBytes.{Written}
use Rattle.placements.specs.PlacementNumbers.{lanes_numbers}
use Rattle.placements.proofs.put_placement.Given as goal

abbrev pub invariant-loop-lane : goal.invariant-loop-lane
invariant-loop-lane l = Written l.initial.w (lanes_numbers l.fn.p l.lane-index) l.w
