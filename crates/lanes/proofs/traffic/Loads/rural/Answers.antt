use mathlib.Core.Path.{◌≡◌, ◌∙◌, sym, subst}
use mathlib.Core.List.{List}
use Prim.Native.Nat.{ℕ, ◌<◌}
use lib.Dec.{lit<}
use lib.IntN.{ℤ, pos}
use mir.Syntax.{w64}
use mir.Val.{to_z, of_z}
use Rattle.exact.specs.Questions.{NoBetter}
use Rattle.exact.specs.declared.Question.{Question}
use Rattle.exact.proofs.Held.{Kept, known, told}
use Rattle.model.specs.Job.{rural, normal, overload}
use Rattle.model.specs.Line.{HN, HO}
use Rattle.model.specs.Traffic.{lane_effect}
use Rattle.magnitudes.specs.Magnitudes.{hn_lane_most, hn_line_most, among}
use Rattle.centres.specs.declared.across.Across.{Across}
use Rattle.sets.specs.Sets.{value_at, ValuesFit, LoadingRight}
use Rattle.sets.specs.declared.Loading.{Loading}
use Rattle.sets.proofs.Reduced.{values_near}
use Rattle.lanes.specs.Entries.{Effects, LoadsFit, chosen_in}
use Rattle.lanes.proofs.Given.{values_fit, elements, effects, some_lanes, hn_loading, to_place}
use Rattle.lanes.proofs.traffic.Loads.rural.Goals as goal

module _ (q : Question) (across : Across) (e : Effects) (loads : LoadsFit hn_line_most across e) (v : List ℤ) (are : (i : ℕ) → i < across.lanes → value_at v i ≡ (chosen_in q across e i).value) where
  -- the lane's effect
  light : ValuesFit q (among across.lanes hn_lane_most) across.lanes (value_at v)
  light = values_fit q across e loads v are

  abbrev lane : Kept w64 hn_lane_most (value_at v 0)
  lane = (_, known w64 (values_near light 0 (some_lanes across).0) (lit< tt))

  -- the loading of the one lane
  one_right : (one : across.lanes ≡ 1) (r : Loading) →
      ((q : Question) (hn ho : ℕ → ℤ) → hn 0 ≡ to_z w64 (of_z w64 (value_at v 0)) → NoBetter q (pos 0) (to_z w64 (of_z w64 (value_at v 0))) → LoadingRight q rural normal 1 hn ho r) → (ho : ℕ → ℤ) → LoadingRight q rural normal across.lanes (value_at v) ho r
  one_right one r right ho =
      let is = sym lane.1.is in
      subst (λ (n : ℕ). LoadingRight q rural normal n (value_at v) ho r) (sym one) (right q (value_at v) ho is (subst (NoBetter q (pos 0)) is (light.some 0 (some_lanes across).0)))

pub one_lane-one-requires : goal.one_lane-one-requires
one_lane-one-requires c = let s = c.args.self.now in (told (lane s.q s.across s.hn s.fits.light c.values-light.result c.values-light.ensures).1).1

pub found-requires : goal.found-requires
found-requires c =
    let s = c.args.self.now in
    to_place (some_lanes s.across).1 (one_right s.q s.across s.hn s.fits.light c.values-light.result c.values-light.ensures (s.fits.one c.requires) c.one_lane-one.result c.one_lane-one.ensures (λ i. pos 0))

-- it fits with either loading; which one is best is said at the return
pub found-requires-2 : goal.found-requires-2
found-requires-2 c =
    let s = c.args.self.now in
    let few = (some_lanes s.across).1 in
    let one = to_place few (one_right s.q s.across s.hn s.fits.light c.values-light.result c.values-light.ensures (s.fits.one c.requires) c.one_lane-one.result c.one_lane-one.ensures (λ i. pos 0)) in
    let none = to_place few (c.no_lane-none.ensures.loading_right s.q s.across.lanes (λ i. pos 0) (λ i. pos 0) few) in
    search (none, one)

pub returns-clause-placed : goal.returns-clause-placed
returns-clause-placed c job on =
    let s = c.args.self.now in
    let v = c.values-light in
    let hn = chosen_in s.q s.across s.hn in
    let over = chosen_in s.q s.across s.ho in
    let loads = on.profile ∙ c.requires in
    let under_hn_lem = elements s.q s.across s.hn s.fits.light job HN on.spanned on.hn in
    let light_is = effects s.q s.across s.hn s.fits.light v.result v.ensures job HN on.spanned on.hn in
    let ho = lane_effect s.q job HO in
    let one = one_right s.q s.across s.hn s.fits.light v.result v.ensures (s.fits.one c.requires) c.one_lane-one.result c.one_lane-one.ensures ho in
    let none = c.no_lane-none.ensures.loading_right s.q s.across.lanes (value_at v.result) ho (some_lanes s.across).1 in (
      c.found.ensures.placed job normal (hn_loading s.q job rural normal s.across s.dynamic c.one_lane-one.result hn over (value_at v.result) on.spanned loads on.dynamic one one.kinds light_is under_hn_lem),
      c.found-2.ensures.placed job overload (hn_loading s.q job rural overload s.across s.dynamic c.no_lane-none.result hn over (value_at v.result) on.spanned loads on.dynamic none none.kinds.1 light_is under_hn_lem),
    )
