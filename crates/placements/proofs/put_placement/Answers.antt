use mathlib.Core.Path.{◌≡◌, refl, sym, ap}
use Prim.Native.Nat.{ℕ, zero, suc, ◌*◌}
use native.Mathlib.Omega.{arith}
use native.Mathlib.Numerals.{add-one}
use lib.ListN.{length, length-append}
use Rattle.model.specs.declared.Placement.{Placement}
use Rattle.model.specs.Answered.{lane_at}
use Rattle.placements.specs.PlacementNumbers.{lane_numbers, lanes_numbers}
use Rattle.numbers.proofs.Stores.{nothing, and_then, retold}
use Rattle.placements.proofs.put_placement.Goals as goal

-- three numbers a lane
three_a_lane : (p : Placement) (n : ℕ) → length (lanes_numbers p n) ≡ 3 * n
three_a_lane p zero = refl
three_a_lane p (suc n) = let e = three_a_lane p n in let f = length-append (lanes_numbers p n) (lane_numbers (lane_at p n)) in omega arith

pub put_lane-requires : goal.put_lane-requires
put_lane-requires c = omega (arith, three_a_lane c.args.p c.loop-lane.lane-index)

pub loop-lane-preserved : goal.loop-lane-preserved
loop-lane-preserved c =
    let l = c.loop-lane in
    retold (sym (ap (lanes_numbers c.args.p) (add-one l.lane-index))) (and_then l.invariant c.put_lane.ensures)

pub returns : goal.returns
returns c =
    let l = c.loop-lane in
    let e : l.lane-index ≡ 10 = omega arith in
    and_then c.put_count.ensures (retold (ap (lanes_numbers c.args.p) e) l.invariant)

pub loop-lane-init : goal.loop-lane-init
loop-lane-init c = nothing
