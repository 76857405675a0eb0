-- Demand 3 for the traffic values: no arrangement of the live kind, for any k, beats the definition's value.
use Rattle.std.specs.Prelude.{if◌then◌else◌, None}
use mathlib.Core.Path.{◌≡◌, refl, sym, ◌∙◌, ap, ap₂, subst}
use mathlib.Core.Bool.{Bool, true, false, false≢true}
use mathlib.Core.List.{List}
use Prim.Native.Nat.{ℕ, zero, ◌-◌, ◌*◌, ◌^◌, ◌<◌}
use native.Mathlib.Nat.{mul-pos}
use native.Mathlib.Omega.{arith}
use lib.IntN.{ℤ, pos, ◌+ℤ◌, ◌*ℤ◌}
use borrow.Author.Tests.{ltb-false}
use lib.Pow.{le_ones}
use Rattle.exact.specs.Questions.{NoBetter, extreme}
use Rattle.exact.specs.Ranges.{sum_to}
use Rattle.exact.specs.declared.Question.{Question}
use Rattle.exact.proofs.Bridge.{by_test}
use Rattle.exact.proofs.Exact.{◌⊗◌, lit, ◌≐◌, solve}
use Rattle.exact.proofs.Extremes.{no_better_of_eq, no_better_trans, no_better_scale, extreme_bounds}
use Rattle.exact.proofs.Ranges.{sum_zero, sum_one, count_none, count_one}
use Rattle.exact.proofs.Rounding.{rounded_cross}
use Rattle.model.specs.Job.{Profile, highway, rural, Job, Live, no_traffic, normal, overload}
use Rattle.model.specs.Decode.{decode}
use Rattle.model.specs.Refusals.{job_verdict}
use Rattle.model.specs.Line.{Kind, HN, HO}
use Rattle.model.specs.Lanes.{lanes, unit, reduction_for}
use Rattle.model.specs.Traffic.{lane_effect, set_sum, best_normal, overload_sum, best_overload, sum_on, best_on, best_sum, effect_of, traffic_value}
use Rattle.model.specs.Arrangements.{Element, Load, unloaded, element, Arrangement, element_effect, carries, load_effect, lanes_under, effect_under, sum_of, arranged, KindsFit, Lawful}
use Rattle.model.proofs.Lanes.{unit_pos, Spaced, deck_spaced}
use Rattle.model.proofs.LineLimits.{OneSigned}
use Rattle.model.proofs.Accepted.{accepted_signed, accepted_spaced}
use Rattle.model.proofs.Centre.{lane_bound}
use Rattle.model.proofs.Sets.{set_number, set_below, set_sum_lem}
use Rattle.model.proofs.Assignments.{factored, overload_cong, overload_unbeaten}
use Rattle.model.proofs.LiveSums.{sum_on_scale, sum_on_mono}

-- an element that a kind's test picks has the kind
carries_kind : (kind : Kind) (e : Element) → carries kind (element e) ≡ true → e.kind ≡ kind
carries_kind HN e = go e.kind
  where
    go : (k : Kind) → (elim k as (λ _. Bool) [ HN ↦ true | HO ↦ false ]) ≡ true → k ≡ HN
    go HN h = refl
    go HO h = absurd (false≢true h)
carries_kind HO e = go e.kind
  where
    go : (k : Kind) → (elim k as (λ _. Bool) [ HN ↦ false | HO ↦ true ]) ≡ true → k ≡ HO
    go HN h = absurd (false≢true h)
    go HO h = refl

not_both : (l : Load) → carries HO l ≡ true → carries HN l ≡ false
not_both unloaded h = refl
not_both (element e) h = ap (λ (k : Kind). elim k as (λ _. Bool) [ HN ↦ true | HO ↦ false ]) (carries_kind HO e h)

-- lane i of an arrangement at the lane's best, where it carries the kind
abbrev pub best_under : Question → Job → Kind → Arrangement → (i : ℕ) → ℤ
best_under q job kind a i = if carries kind (a.load i) then lane_effect q job kind i else pos 0

-- a live kind's sum with every lane at its best: times the sums' denominator
abbrev pub best_of : Question → Job → Live → Arrangement → ℤ
best_of q job live a = sum_on job.profile live (lanes job) (best_under q job HN a) (best_under q job HO a) (lanes_under job HN a) a.factor

-- ---- the best sum bounds what the lanes' bests give together
module _ (q : Question) (job : Job) (k : ℕ) (a : Arrangement) where
  abbrev hn : ℕ → ℤ
  hn = lane_effect q job HN

  abbrev ho : ℕ → ℤ
  ho = lane_effect q job HO

  abbrev n : ℕ
  n = lanes job

  -- without a lane under a kind, that kind's bests are 0
  none_under : (kind : Kind) → lanes_under job kind a ≡ 0 → (i : ℕ) → i < n → best_under q job kind a i ≡ pos 0
  none_under kind e i h = ap (λ (t : Bool). if t then lane_effect q job kind i else pos 0) (count_none n (λ i. carries kind (a.load i)) e i h)

  -- normal: the HN lanes are one of the sets
  normal_best : NoBetter q (best_of q job normal a) (best_normal q (reduction_for job.profile) n hn)
  unfolding best_normal
  normal_best =
      let under : ℕ → Bool = λ i. carries HN (a.load i) in
      subst (λ (x : ℤ). NoBetter q x (extreme q (2 ^ n - 1) (set_sum (reduction_for job.profile) n hn))) (sym (set_sum_lem (reduction_for job.profile) n under hn))
      (extreme_bounds q (2 ^ n - 1) (set_sum (reduction_for job.profile) n hn) (set_number n under) (le_ones n (set_below n under)))

  -- overload: the factors are an assignment to lanes other than the HO lane
  overload_best : lanes_under job HO a ≡ 1 → Lawful job overload k a → NoBetter q (best_of q job overload a) (best_overload q n hn ho)
  overload_best one law =
      let it = count_one n (λ i. carries HO (a.load i)) one in
      let o = it.who in
      let l = it.below in
      let sum : sum_to n (best_under q job HO a) ≡ ho o = sum_one n (best_under q job HO a) o l (λ i h d. ap (λ (t : Bool). if t then ho i else pos 0) (it.others i h d)) ∙ ap (λ (t : Bool). if t then ho o else pos 0) it.holds in
      let none = ltb-false 0 (a.factor o) (law.factors.lanes o l ∙ not_both (a.load o) it.holds) in
      subst (λ (x : ℤ). NoBetter q x (best_overload q n hn ho))
      (overload_cong n hn (best_under q job HN a) a.factor a.factor (sym sum) (λ i h. sym (factored (a.factor i) (hn i) (carries HN (a.load i)) (law.factors.lanes i h))))
      (overload_unbeaten q n hn ho o a.factor l (omega arith) law.factors.counts)

  -- a rural bridge's overload arrangement gives nothing
  idle : lanes_under job HN a ≡ 0 → lanes_under job HO a ≡ 0 → best_of q job overload a ≡ pos 0
  unfolding overload_sum
  idle no-hn no-ho =
      ap₂ (λ (x y : ℤ). pos 20 *ℤ x +ℤ y) (sum_zero n _ (none_under HO no-ho)) (sum_zero n _ (λ i h. ap (λ (x : ℤ). pos (a.factor i) *ℤ x) (none_under HN no-hn i h) ∙ solve 1 (λ f. f ⊗ lit 0 ≐ lit 0) tt (pos (a.factor i))))

  best_bound : (live : Live) → Lawful job live k a → NoBetter q (best_of q job live a) (best_sum q job live)
  unfolding best_sum best_on
  best_bound no_traffic law = absurd law.kinds
  best_bound normal law = normal_best
  best_bound overload law = go job.profile law.kinds
    where
      go : (p : Profile) → KindsFit p overload (lanes_under job HN a) (lanes_under job HO a) → NoBetter q (best_of q job overload a) (best_on q p overload n hn ho)
      go highway one = overload_best one law
      go rural empty = no_better_of_eq q (idle empty.0 empty.1)

-- ---- each lane's best bounds what it carries
module _ (q : Question) (job : Job) (live : Live) (k : ℕ) (a : Arrangement) (signed : OneSigned job.line) (spaced : Spaced job) (law : Lawful job live k a) where
  abbrev c : ℕ
  c = k * k * k

  lane_load : (kind : Kind) (i : ℕ) → i < lanes job → (l : Load) → a.load i ≡ l →
      NoBetter q (pos (unit job) *ℤ (if carries kind l then load_effect job i k l else pos 0)) (pos c *ℤ (if carries kind l then lane_effect q job kind i else pos 0))
  lane_load kind i h unloaded e = no_better_of_eq q (solve 2 (λ n c. n ⊗ lit 0 ≐ c ⊗ lit 0) tt (pos (unit job)) (pos c))
  lane_load kind i h (element x) e =
      by_test (carries kind (element x)) (λ t. NoBetter q (pos (unit job) *ℤ (if t then element_effect job i k x else pos 0)) (pos c *ℤ (if t then lane_effect q job kind i else pos 0)))
      (λ t. subst (λ (kind : Kind). NoBetter q (pos (unit job) *ℤ element_effect job i k x) (pos c *ℤ lane_effect q job kind i)) (carries_kind kind x t) (lane_bound q job i k x signed (deck_spaced job i spaced) law.fine (law.centres i x h e)))
      (λ t. no_better_of_eq q (solve 2 (λ n c. n ⊗ lit 0 ≐ c ⊗ lit 0) tt (pos (unit job)) (pos c)))

  -- all lanes: the unit times the sum against k k k times the best
  sum_bound : NoBetter q (pos (unit job) *ℤ sum_of job live k a) (pos c *ℤ best_of q job live a)
  unfolding sum_of
  sum_bound =
      let n = lanes job in
      let p = job.profile in
      let under = lanes_under job HN a in
      subst (λ (x : ℤ). NoBetter q x (pos c *ℤ best_of q job live a)) (sum_on_scale p n (effect_under job k HN a) (effect_under job k HO a) under a.factor live (pos (unit job)))
      (subst (NoBetter q (sum_on p live n (λ i. pos (unit job) *ℤ effect_under job k HN a i) (λ i. pos (unit job) *ℤ effect_under job k HO a i) under a.factor))
      (sum_on_scale p n (best_under q job HN a) (best_under q job HO a) under a.factor live (pos c))
      (sum_on_mono p n _ _ under a.factor q live _ _ (λ i h. lane_load HN i h (a.load i) refl) (λ i h. lane_load HO i h (a.load i) refl)))

  -- demand 3 of a traffic value: no arrangement of the live kind, for any k, beats it
  pub unbeaten : NoBetter q (arranged q job live k a) (traffic_value q job live)
  unfolding arranged traffic_value effect_of
  unbeaten =
      let n = unit job in
      let g = job.deck.g in
      let g-pos = spaced.0 in
      let y = job.dynamic q in
      let k-pos = law.fine in
      let some : zero < 800000 = omega arith in
      rounded_cross q (pos 3 *ℤ (pos y *ℤ sum_of job live k a)) (pos 3 *ℤ (pos y *ℤ best_sum q job live)) (800000 * (k * k * (k * g))) (800000 * (n * g))
      (mul-pos some (mul-pos (mul-pos k-pos k-pos) (mul-pos k-pos g-pos))) (mul-pos some (mul-pos (unit_pos job) g-pos))
      (subst (λ (x : ℤ). NoBetter q x (pos (800000 * (k * k * (k * g))) *ℤ (pos 3 *ℤ (pos y *ℤ best_sum q job live))))
      (solve 5 (λ m n g y s. m ⊗ g ⊗ (lit 3 ⊗ y) ⊗ (n ⊗ s) ≐ m ⊗ (n ⊗ g) ⊗ (lit 3 ⊗ (y ⊗ s))) tt (pos 800000) (pos n) (pos g) (pos y) (sum_of job live k a))
      (subst (NoBetter q (pos (800000 * g * (3 * y)) *ℤ (pos n *ℤ sum_of job live k a)))
      (solve 5 (λ m k g y s. m ⊗ g ⊗ (lit 3 ⊗ y) ⊗ (k ⊗ k ⊗ k ⊗ s) ≐ m ⊗ (k ⊗ k ⊗ (k ⊗ g)) ⊗ (lit 3 ⊗ (y ⊗ s))) tt (pos 800000) (pos k) (pos g) (pos y) (best_sum q job live))
      (no_better_scale q (800000 * g * (3 * y)) _ _ (no_better_trans q _ _ _ sum_bound (no_better_scale q c _ _ (best_bound q job k a live law))))))

-- and so of every accepted job
pub accepted_unbeaten : (b : List ℕ) → job_verdict b ≡ None → (q : Question) (live : Live) (k : ℕ) (a : Arrangement) → Lawful (decode b) live k a →
    NoBetter q (arranged q (decode b) live k a) (traffic_value q (decode b) live)
accepted_unbeaten b e q live k a law = unbeaten q (decode b) live k a (accepted_signed b e) (accepted_spaced b e) law
