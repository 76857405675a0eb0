-- A lane's chosen element: how far from zero its effect is, that it is not worse than 0, and in a job that it gives the lane's best.
use mathlib.Core.Path.{◌≡◌, sym, ◌∙◌, ap, ap₂, subst}
use Prim.Native.Nat.{ℕ, ◌*◌, ◌≤◌, ◌<◌}
use lib.IntN.{ℤ, pos, ◌*ℤ◌}
use Rattle.exact.specs.Bounds.{Within}
use Rattle.exact.specs.Questions.{better, for_question, other, NoBetter}
use Rattle.exact.specs.declared.Question.{Question}
use Rattle.exact.specs.declared.Question.TheVariants.{Greatest, Least}
use Rattle.exact.proofs.Bounds.{within_le, within_mul}
use Rattle.exact.proofs.Extremes.{no_better_trans, better_left, better_right, better_least, better_by_ind, better_by_value}
use Rattle.exact.proofs.Ring.{◌⊗◌, lit, ◌≐◌, solve}
use Rattle.model.specs.Job.{Job}
use Rattle.model.specs.Lanes.{deck_of, number_on, other_lanes, unit, in_units, lowest_in, highest_in, ordinate_in}
use Rattle.model.specs.Line.{Kind}
use Rattle.model.specs.Traffic.{lane_effect}
use Rattle.model.specs.Placements.{BestCentre}
use Rattle.model.proofs.Centre.{factor_down, units_ordinate, best_in_lane_split}
use Rattle.model.proofs.Signs.{between_products}
use Rattle.magnitudes.specs.Magnitudes.{transverse_most}
use Rattle.centres.specs.Spans.{Span, SpanRight, SpanFits}
use Rattle.centres.specs.declared.across.Across.{Across}
use Rattle.lanes.specs.Entries.{Effects, LineEffectsFit, LoadsFit, times, effects_in, raising_of, lowering_of, chosen}
use Rattle.sets.proofs.Reduced.{among_most, among_wider}
use Rattle.lanes.specs.Loadings.{effects_of, ElementRight}
use Rattle.lanes.specs.declared.entries.Chosen.{Chosen}

-- line effects within a wider bound
pub wider : {m n : ℕ} {e : Effects} → m ≤ n → LineEffectsFit m e → LineEffectsFit n e
wider h f = record { up = f.up; down = f.down; raising = within_le f.raising h; lowering = within_le f.lowering h }

-- and in every lane
pub wider_loads : {m n : ℕ} {across : Across} {e : Effects} → m ≤ n → LoadsFit m across e → LoadsFit n across e
wider_loads {m} {n} {across} h f = record { own = wider h f.own; each = λ i l. wider (among_wider across.lanes h) (f.each i l) }

-- each lane's are near enough whatever the number of lanes
pub lane_loads : {most : ℕ} {across : Across} {e : Effects} → LoadsFit most across e → (i : ℕ) → i < across.lanes → LineEffectsFit most (effects_in across e i)
lane_loads {most} {across} f i h = wider (among_most across.lanes most) (f.each i h)

order_of : (q : Question) (span : Span) → SpanFits span → NoBetter (other q) (for_question q span).ordinate (for_question (other q) span).ordinate
order_of Greatest span h = h.order
order_of Least span h = h.order

-- what is compared of an element
abbrev effect : Chosen → ℤ
effect c = c.value

-- a chosen element's effect is the better of the two
chosen_value : (q : Question) (span : Span) (e : Effects) → (chosen q span e).value ≡ better q (raising_of q span e).value (lowering_of q span e).value
chosen_value q span e = better_by_value effect q (raising_of q span e) (lowering_of q span e)

module _ (q : Question) (span : Span) (e : Effects) {b : ℕ} (fits : SpanFits span) (fit : LineEffectsFit b e) where
  pub chosen_near : Within (transverse_most * b) (chosen q span e).value
  chosen_near =
      better_by_ind effect q (λ (c : Chosen). Within (transverse_most * b) c.value) (raising_of q span e) (lowering_of q span e) (within_mul (fits.near q) fit.raising) (within_mul (fits.near (other q)) fit.lowering)

  -- at the one ordinate 0 lies between both elements, and the other ordinate suits lowering better
  pub chosen_some : NoBetter q (pos 0) (chosen q span e).value
  chosen_some =
      let t = (for_question q span).ordinate in
      let u = (for_question (other q) span).ordinate in
      let r = e.raising in
      let l = e.lowering in
      subst (NoBetter q (pos 0)) (sym (chosen_value q span e))
      (no_better_trans q (pos 0) (better q (t *ℤ r) (t *ℤ l)) _
      (subst (λ (x : ℤ). NoBetter q x (better q (t *ℤ r) (t *ℤ l))) (solve 1 (λ t. t ⊗ lit 0 ≐ lit 0) tt t) (between_products q t (pos 0) l r fit.down fit.up))
      (better_least q (t *ℤ r) (t *ℤ l) _ (better_left q (t *ℤ r) (u *ℤ l))
      (no_better_trans q _ _ _ (factor_down q l t u fit.down (order_of q span fits)) (better_right q (t *ℤ r) (u *ℤ l)))))

module _ (q : Question) (job : Job) (kind : Kind) (i : ℕ) (span : Span) (g-pos : 0 < (deck_of job i).g) (at : SpanRight (deck_of job i) (number_on job i) span) where
  abbrev m : ℕ
  m = other_lanes job i

  -- the line effects in the lane's units
  abbrev e : Effects
  e = times m (effects_of job kind)

  -- the ordinate there, times the other carriageway's n
  here : (q : Question) (L : ℤ) → ordinate_in job i (unit job) (in_units job i (for_question q span).at) *ℤ L ≡ (for_question q span).ordinate *ℤ (pos m *ℤ L)
  here q L =
      ap (λ (t : ℤ). t *ℤ L) (units_ordinate job i (for_question q span).at g-pos ∙ ap (λ (t : ℤ). pos m *ℤ t) (at.each q).here)
      ∙ solve 3 (λ m t L. m ⊗ t ⊗ L ≐ t ⊗ (m ⊗ L)) tt (pos m) (for_question q span).ordinate L

  -- an element that gives the lane's best stands at a best centre
  abbrev BestThere : Chosen → Type 0
  BestThere c = c.value ≡ lane_effect q job kind i → BestCentre q job kind c.sense i c.centre

  raising_there : BestThere (raising_of q span e)
  unfolding lowest_in highest_in
  raising_there is = let c = at.each q in record { low = c.from; high = c.to; best = here q _ ∙ is }

  lowering_there : BestThere (lowering_of q span e)
  unfolding lowest_in highest_in
  lowering_there is = let c = at.each (other q) in record { low = c.from; high = c.to; best = here (other q) _ ∙ is }

  pub chosen_element : {b : ℕ} → LineEffectsFit b e → ElementRight q job kind i (chosen q span e)
  unfolding lane_effect
  chosen_element fit =
      let value : (chosen q span e).value ≡ lane_effect q job kind i =
      chosen_value q span e
      ∙ ap₂ (λ (x y : ℤ). better q (x *ℤ e.raising) (y *ℤ e.lowering)) (at.each q).best (at.each (other q)).best
      ∙ sym (best_in_lane_split q job i (effects_of job kind).raising (effects_of job kind).lowering g-pos fit.up fit.down) in
      record { value = value; at = better_by_ind effect q BestThere (raising_of q span e) (lowering_of q span e) raising_there lowering_there value }
