use mathlib.Core.Path.{◌∙◌, sym, subst}
use Prim.Native.Nat.{ℕ, ◌<◌}
use lib.IntN.{pos}
use Rattle.exact.specs.Bounds.{Within}
use Rattle.model.specs.Job.{highway, normal, overload}
use Rattle.model.specs.Line.{HN, HO}
use Rattle.model.specs.Traffic.{lane_effect}
use Rattle.magnitudes.specs.Magnitudes.{ho_lane_most, among}
use Rattle.sets.specs.Sets.{value_at, ValuesFit}
use Rattle.lanes.specs.Entries.{chosen_in}
use Rattle.lanes.proofs.Given.{values_fit, elements, effects, some_lanes, loading_of, hn_loading, to_place, by_ranking}
use Rattle.lanes.proofs.traffic.Loads.highway.Goals as goal

pub new-ranking-requires : goal.new-ranking-requires
new-ranking-requires c =
    let s = c.args.self.now in
    ((some_lanes s.across).1, values_fit s.q s.across s.hn s.fits.light c.values-light.result c.values-light.ensures)

pub best_overload-requires : goal.best_overload-requires
best_overload-requires c =
    let s = c.args.self.now in
    let v = value_at c.values-heavy.result in
    let heavy : ValuesFit s.q (among s.across.lanes ho_lane_most) s.across.lanes v = values_fit s.q s.across s.ho s.fits.heavy c.values-heavy.result c.values-heavy.ensures in
    subst (λ (n : ℕ). (0 < n) × ((i : ℕ) → i < n → Within (among n ho_lane_most) (v i))) (sym c.new-ranking.ensures.1) ((some_lanes s.across).0, heavy.near)

pub found-requires : goal.found-requires
found-requires c = to_place c.new-ranking.result.fits.few (c.best_normal.ensures (λ i. pos 0))

pub found-requires-2 : goal.found-requires-2
found-requires-2 c = to_place c.new-ranking.result.fits.few c.best_overload.ensures

pub returns-clause-placed : goal.returns-clause-placed
returns-clause-placed c job on =
    let s = c.args.self.now in
    let light = c.values-light in
    let heavy = c.values-heavy in
    let hn = chosen_in s.q s.across s.hn in
    let ho = chosen_in s.q s.across s.ho in
    let loads = on.profile ∙ c.requires in
    let under_hn_lem = elements s.q s.across s.hn s.fits.light job HN on.spanned on.hn in
    let light_is = effects s.q s.across s.hn s.fits.light light.result light.ensures job HN on.spanned on.hn in
    let heavy_is = effects s.q s.across s.ho s.fits.heavy heavy.result heavy.ensures job HO on.spanned on.ho in
    let one = by_ranking c.new-ranking.result c.new-ranking.ensures (c.best_normal.ensures (lane_effect s.q job HO)) in
    let pair = by_ranking c.new-ranking.result c.new-ranking.ensures c.best_overload.ensures in (
      c.found.ensures.placed job normal (hn_loading s.q job highway normal s.across s.dynamic c.best_normal.result hn ho (value_at light.result) on.spanned loads on.dynamic one one.kinds light_is under_hn_lem),
      c.found-2.ensures.placed job overload
          (loading_of s.q job highway overload s.across s.dynamic c.best_overload.result hn ho (value_at light.result) (value_at heavy.result) on.spanned loads on.dynamic pair light_is heavy_is under_hn_lem
          (λ i h e. elements s.q s.across s.ho s.fits.heavy job HO on.spanned on.ho i h)),
    )
