use mathlib.Core.Path.{sym, ◌∙◌, ap, subst}
use native.Mathlib.Omega.{arith}
use lib.Dec.{lit<}
use lib.ListN.{get_or}
use mir.Syntax.{w64}
use Rattle.exact.specs.Bounds.{Within}
use Rattle.exact.proofs.Filled.{filled_more}
use Rattle.exact.proofs.Held.{known}
use Rattle.magnitudes.specs.Magnitudes.{ho_lane_most}
use Rattle.centres.specs.Spans.{no_span}
use Rattle.lanes.specs.Entries.{effects_in, chosen_in}
use Rattle.lanes.specs.declared.entries.Chosen.{Chosen}
use Rattle.lanes.proofs.Elements.{lane_loads, chosen_near}
use Rattle.lanes.proofs.Given.{some_lanes}
use Rattle.lanes.proofs.entries.values.Goals as goal

pub loop-i-preserved : goal.loop-i-preserved
loop-i-preserved c =
    let a = c.args in
    let across = a.across.now in
    let l = c.loop-i in
    let is = c.choose_in.ensures in
    let few = some_lanes across in
    let near : Within ho_lane_most (chosen_in a.q across a.e l.i).value = chosen_near a.q (get_or across.spans l.i no_span) (effects_in across a.e l.i) (across.fits.spans l.i (omega arith)) (lane_loads c.requires l.i (omega arith)) in
    let held = known w64 (subst (λ (x : Chosen). Within ho_lane_most x.value) (sym is) near) (lit< tt) in
    filled_more _ (omega arith) l.invariant (held.is ∙ ap (λ (x : Chosen). x.value) is)
