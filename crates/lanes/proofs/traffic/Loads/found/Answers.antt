use mathlib.Core.Path.{◌≡◌, ◌∙◌, ap}
use lib.Dec.{lit<}
use lib.IntN.{ℤ}
use mir.Syntax.{w64}
use mir.Val.{to_z, of_z}
use Rattle.exact.proofs.Held.{known, back}
use Rattle.model.specs.Traffic.{effect_of}
use Rattle.lanes.specs.Entries.{chosen_in}
use Rattle.lanes.proofs.Given.{some_lanes}
use Rattle.lanes.proofs.Placements.{traffic_placed}
use Rattle.lanes.proofs.traffic.Loads.found.Goals as goal

pub returns-clause-placed : goal.returns-clause-placed
returns-clause-placed c job live f =
    let s = c.args.self.now in
    let best = c.args.best in
    let v : to_z w64 (of_z w64 c.value.result) ≡ effect_of s.q s.dynamic best.value s.across.denominator =
    back w64 c.value.type_inv (c.value.ensures.0 ∙ ap (λ (z : ℤ). effect_of s.q s.dynamic z s.across.denominator) (known w64 c.requires.1 (lit< tt)).is) in
    traffic_placed s.q job live s.across s.dynamic best (chosen_in s.q s.across s.hn) (chosen_in s.q s.across s.ho) f (some_lanes s.across).1 _ v c.loaded.ensures c.placed-lanes.ensures
