-- The elements chosen for a kind: their values, and in a job that each gives its lane's best.
use Rattle.std.specs.Prelude.{if◌then◌else◌}
use mathlib.Core.Path.{◌≡◌, refl, sym, ◌∙◌, ap, ap₂, subst}
use mathlib.Core.Bool.{true≢false, ◌&&◌}
use mathlib.Core.List.{List}
use Prim.Native.Nat.{ℕ, ◌-◌, ◌*◌, ◌^◌, ◌≤◌, ◌<◌, max}
use native.Mathlib.Nat.{lt_of_lt_of_le}
use native.Mathlib.Omega.{arith}
use lib.Count.{ones}
use lib.Dec.{ltb, eqb}
use lib.IntN.{ℤ, pos, ◌*ℤ◌}
use lib.ListN.{get_or}
use lib.Pow.{pow_mono}
use borrow.Author.Tests.{eq-eqb}
use Rattle.exact.specs.Bounds.{Within}
use Rattle.exact.specs.Questions.{NoBetter}
use Rattle.exact.specs.Ranges.{count_to}
use Rattle.exact.specs.declared.Question.{Question}
use Rattle.exact.proofs.Choices.{over_cong}
use Rattle.exact.proofs.Extremes.{extreme_cong}
use Rattle.exact.proofs.Ranges.{sum_cong, count_none}
use Rattle.model.specs.Job.{Profile, highway, rural, Job, Live, no_traffic, normal, overload}
use Rattle.model.specs.Lanes.{bit, reduction_for, lanes, other_lanes}
use Rattle.model.specs.Line.{Kind, HN, HO}
use Rattle.model.specs.Traffic.{set_sum, best_normal, assigned, factor_choice, beside_sum, best_overload, best_on, lane_effect}
use Rattle.exact.proofs.Bounds.{within_le}
use Rattle.model.proofs.Assignments.{overload_cong}
use Rattle.model.proofs.Lanes.{deck_spaced}
use Rattle.model.proofs.LiveSums.{sum_on_cong}
use Rattle.magnitudes.specs.Magnitudes.{transverse_most, among, sum_most}
use Rattle.centres.specs.Spans.{no_span}
use Rattle.centres.specs.Spanned.{Spanned}
use Rattle.centres.specs.declared.across.Across.{Across}
use Rattle.sets.specs.Sets.{value_at, ValuesFit, LoadingRight}
use Rattle.sets.specs.declared.Loading.{Loading}
use Rattle.sets.specs.declared.Ranking.{Ranking}
use Rattle.sets.proofs.Reduced.{among_times}
use Rattle.lanes.specs.Entries.{Effects, LineEffectsFit, LoadsFit, other_in, times, effects_in, chosen, chosen_in}
use Rattle.lanes.specs.Loadings.{effects_of, ElementRight, LoadingOf}
use Rattle.lanes.specs.declared.entries.Chosen.{Chosen}
use Rattle.lanes.proofs.Elements.{chosen_near, chosen_some, chosen_element}

-- in a job whose line effects these are, each lane's chosen element gives its best
module _ (q : Question) (across : Across) (e : Effects) {b : ℕ} (fit : LoadsFit b across e) where
  -- the other carriageway's n
  other_is : {job : Job} → Spanned job across → (i : ℕ) → other_in across.first across.second i ≡ other_lanes job i
  unfolding other_lanes
  other_is on i = ap₂ (λ (n m : ℕ). if ltb i n then max 1 m else n) on.first on.second

  pub elements : (job : Job) (kind : Kind) → Spanned job across → e ≡ effects_of job kind → (i : ℕ) → i < across.lanes → ElementRight q job kind i (chosen_in q across e i)
  elements job kind on is i h =
      let same = ap₂ times (other_is on i) is in
      subst (λ (e : Effects). ElementRight q job kind i (chosen q (get_or across.spans i no_span) e)) (sym same)
      (chosen_element q job kind i (get_or across.spans i no_span) (deck_spaced job i on.spaced) (on.each i h) (subst (LineEffectsFit (among across.lanes b)) same (fit.each i h)))

  -- their effects as an array has them
  module _ (v : List ℤ) (are : (i : ℕ) → i < across.lanes → value_at v i ≡ (chosen_in q across e i).value) where
    pub values_fit : ValuesFit q (among across.lanes (transverse_most * b)) across.lanes (value_at v)
    values_fit =
        let fits = across.fits in
        let most = among across.lanes (transverse_most * b) in
        record {
          some = λ i h. subst (NoBetter q _) (sym (are i h)) (chosen_some q (get_or across.spans i no_span) (effects_in across e i) (fits.spans i h) (fit.each i h));
          near = λ i h. subst (Within most) (sym (are i h)) (within_le (chosen_near q (get_or across.spans i no_span) (effects_in across e i) (fits.spans i h) (fit.each i h)) (among_times across.lanes transverse_most b));
        }

    pub effects : (job : Job) (kind : Kind) → Spanned job across → e ≡ effects_of job kind → (i : ℕ) → i < across.lanes → value_at v i ≡ lane_effect q job kind i
    effects job kind on is i h = are i h ∙ (elements job kind on is i h).value

-- one to ten lanes
pub some_lanes : (across : Across) → (0 < across.lanes) × (across.lanes ≤ 10)
some_lanes across = let fits = across.fits in (omega arith, omega arith)

-- ---- the same of equal values
set_sum_cong : (r : ℕ → ℤ) (n set : ℕ) (f g : ℕ → ℤ) → ((i : ℕ) → i < n → f i ≡ g i) → set_sum r n f set ≡ set_sum r n g set
unfolding set_sum
set_sum_cong r n set f g h = ap (λ (x : ℤ). r (ones set) *ℤ x) (sum_cong n _ _ (λ i l. ap (λ (x : ℤ). if bit set i then x else pos 0) (h i l)))

module _ (q : Question) (n : ℕ) (hn hn' ho ho' : ℕ → ℤ) (some : 0 < n) (a : (i : ℕ) → i < n → hn i ≡ hn' i) (b : (i : ℕ) → i < n → ho i ≡ ho' i) where
  best_cong : (p : Profile) (live : Live) → best_on q p live n hn ho ≡ best_on q p live n hn' ho'
  unfolding best_on best_normal best_overload beside_sum
  best_cong p no_traffic = refl
  best_cong p normal = extreme_cong q (2 ^ n - 1) _ _ (λ s l. set_sum_cong (reduction_for p) n s hn hn' a)
  best_cong highway overload =
      extreme_cong q (n - 1) _ _ (λ o l. over_cong q (n - 1) n _ _ (λ c.
      let f : ℕ → ℕ = λ i. factor_choice (c i) in
      ap₂ (λ (x y : ℤ). if eqb (f o) 0 && assigned n f then x else pos 20 *ℤ y) (overload_cong n hn hn' f f (b o (omega arith)) (λ i h. ap (λ (x : ℤ). pos (f i) *ℤ x) (a i h))) (b o (omega arith))))
  best_cong rural overload = refl

  loading_cong : (p : Profile) (live : Live) (r : Loading) → LoadingRight q p live n hn ho r → LoadingRight q p live n hn' ho' r
  loading_cong p live r l = record {
    lane = l.lane;
    kinds = l.kinds;
    small = l.small;
    apart = l.apart;
    factors = l.factors;
    past = l.past;
    value =
        l.value
        ∙ sum_on_cong p n live (λ i h. ap (λ (x : ℤ). if bit r.set i then x else pos 0) (a i h)) (λ i h. ap (λ (x : ℤ). if eqb i r.lane then x else pos 0) (b i h)) refl (λ i h. refl);
    best = l.best ∙ best_cong p live;
    near = l.near;
  }

-- a live kind's best loading over the elements' values is the job's
pub loading_of : (q : Question) (job : Job) (p : Profile) (live : Live) (across : Across) (dynamic : ℕ) (best : Loading) (hn ho : ℕ → Chosen) (f g : ℕ → ℤ) → Spanned job across → job.profile ≡ p → dynamic ≡ job.dynamic q →
    LoadingRight q p live across.lanes f g best → ((i : ℕ) → i < across.lanes → f i ≡ lane_effect q job HN i) → ((i : ℕ) → i < across.lanes → g i ≡ lane_effect q job HO i) →
    ((i : ℕ) → i < across.lanes → ElementRight q job HN i (hn i)) → ((i : ℕ) → i < across.lanes → i ≡ best.lane → ElementRight q job HO i (ho i)) →
    LoadingOf q job live across dynamic best hn ho
loading_of q job p live across dynamic best hn ho f g on loads factor l is_f is-g under_hn_lem under_ho_lem = record {
  spanned = on;
  dynamic_is = factor;
  loading = subst (λ (p : Profile). LoadingRight q p live (lanes job) (lane_effect q job HN) (lane_effect q job HO) best) (sym loads)
      (subst (λ (n : ℕ). LoadingRight q p live n (lane_effect q job HN) (lane_effect q job HO) best) on.lanes
      (loading_cong q across.lanes f (lane_effect q job HN) g (lane_effect q job HO) (some_lanes across).0 is_f is-g p live best l));
  under_hn = subst (λ (n : ℕ). (i : ℕ) → i < n → ElementRight q job HN i (hn i)) on.lanes under_hn_lem;
  under_ho = subst (λ (n : ℕ). (i : ℕ) → i < n → i ≡ best.lane → ElementRight q job HO i (ho i)) on.lanes under_ho_lem;
}

-- one without a lane under HO
pub hn_loading : (q : Question) (job : Job) (p : Profile) (live : Live) (across : Across) (dynamic : ℕ) (best : Loading) (hn ho : ℕ → Chosen) (f : ℕ → ℤ) → Spanned job across → job.profile ≡ p → dynamic ≡ job.dynamic q →
    LoadingRight q p live across.lanes f (lane_effect q job HO) best → count_to across.lanes (λ i. eqb i best.lane) ≡ 0 → ((i : ℕ) → i < across.lanes → f i ≡ lane_effect q job HN i) →
    ((i : ℕ) → i < across.lanes → ElementRight q job HN i (hn i)) → LoadingOf q job live across dynamic best hn ho
hn_loading q job p live across dynamic best hn ho f on loads factor l none is_f under_hn_lem =
    loading_of q job p live across dynamic best hn ho f (lane_effect q job HO) on loads factor l is_f (λ i h. refl) under_hn_lem
    (λ i h e. absurd (true≢false (sym (eq-eqb i best.lane e) ∙ count_none across.lanes (λ k. eqb k best.lane) none i h)))

-- ---- a loading to place
-- its set is of ten lanes, and its sum near enough
pub to_place : {q : Question} {p : Profile} {live : Live} {n : ℕ} {hn ho : ℕ → ℤ} {best : Loading} → n ≤ 10 → LoadingRight q p live n hn ho best → (best.set < 1024) × Within sum_most best.value
to_place {n = n} few l = (lt_of_lt_of_le l.small (pow_mono {i = n} {j = 10} few), l.near)

-- one that was found by a ranking of these values
pub by_ranking : (r : Ranking) {p : Profile} {live : Live} {ho : ℕ → ℤ} {best : Loading} {q : Question} {n : ℕ} {v : List ℤ} → (r.q ≡ q) × (r.n ≡ n) × (r.hn ≡ v) → LoadingRight r.q p live r.n (value_at r.hn) ho best → LoadingRight q p live n (value_at v) ho best
by_ranking r {p} {live} {ho} {best} {q} {n} e l =
    subst (λ (v : List ℤ). LoadingRight q p live n (value_at v) ho best) e.2
    (subst (λ (n : ℕ). LoadingRight q p live n (value_at r.hn) ho best) e.1 (subst (λ (q : Question). LoadingRight q p live r.n (value_at r.hn) ho best) e.0 l))
