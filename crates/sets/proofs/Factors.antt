-- Overload beside HO in one lane: the factors by rank are an assignment, and none beats them.
use Rattle.std.specs.Prelude.{if◌then◌else◌}
use mathlib.Core.Path.{◌≡◌, refl, sym, ◌∙◌, ap, subst}
use mathlib.Core.Bool.{Bool, true, false, not, ◌&&◌}
use Prim.Native.Nat.{ℕ, suc, ◌+◌, ◌-◌, ◌*◌, ◌/◌, ◌≤◌, ◌<◌}
use native.Mathlib.Nat.{mul-le-mul_right}
use native.Mathlib.Decide.{dec_le}
use native.Mathlib.Omega.{arith}
use lib.IntN.{ℤ, pos, ◌+ℤ◌, ◌*ℤ◌}
use lib.Dec.{ltb, eqb}
use borrow.Author.Tests.{ltb-true, lt-ltb, le-ltb, eqb-true, eq-eqb, ne_eqb}
use Rattle.exact.specs.Bounds.{Within}
use Rattle.exact.specs.Questions.{NoBetter, beats, extreme_over}
use Rattle.exact.specs.Ranges.{sum_to, count_to}
use Rattle.exact.specs.declared.Question.{Question}
use Rattle.exact.proofs.Bounds.{within_le, within_pos, within_add, within_mul}
use Rattle.exact.proofs.Bridge.{by_test}
use Rattle.exact.proofs.Choices.{over_least}
use Rattle.exact.proofs.Counting.{and_true, count_all, count_but, count_fewer}
use Rattle.exact.proofs.Extremes.{no_better_refl, no_better_trans, no_better_antisym, no_better_add, no_better_scale, beats_no}
use Rattle.exact.proofs.Levels.{factors_unbeaten, total, total_levels, total_near}
use Rattle.exact.proofs.Ranges.{sum_cong, sum_mono, sum_zero, count_cong}
use Rattle.exact.proofs.Ring.{◌⊕◌, ◌⊗◌, lit, ◌≐◌, solve}
use Rattle.model.specs.Lanes.{additional}
use Rattle.model.specs.Traffic.{additional_lanes, assigned, overload_sum, factor_choice, beside_sum}
use Rattle.model.proofs.Assignments.{additional_range, additional_falls, assigned_intro, assigned_level, assigned_top, assigned_number}
use Rattle.magnitudes.specs.Magnitudes.{hn_lane_most, ho_lane_most, among, sum_most}
use Rattle.sets.proofs.Reduced.{additional_total}
use Rattle.sets.specs.Sets.{precedes, rank, factor_by_rank}
use Rattle.sets.proofs.Places.{place_in, place, place_order, rank_beside, places_count, precedes_true, beats_strict}

-- factors that stand as often as those of m additional lanes are an assignment
pub by_counts : (n m : ℕ) (f : ℕ → ℕ) → ((g : ℕ → Bool) → g 0 ≡ false → count_to n (λ i. g (f i)) ≡ count_to m (λ j. g (additional j))) → assigned n f ≡ true
by_counts n m f count =
    assigned_intro n f (λ x l. count (λ k. eqb k (suc x)) (ne_eqb 0 (suc x) (λ s. omega arith)) ∙ ap (λ (k : ℕ). count_to k (λ j. eqb (additional j) (suc x))) (sym number))
  where
    number : additional_lanes n f ≡ m
    number = count (ltb 0) (le-ltb 0 0 (omega arith)) ∙ count_all _ (λ j. ltb 0 (additional j)) (λ j l. lt-ltb 0 _ (additional_range j).0)

-- no factor by rank is above 20
pub factor_top : (q : Question) (ranks : ℕ → ℕ) (v : ℕ → ℤ) (o i : ℕ) → factor_by_rank q ranks v o i ≤ 20
unfolding factor_by_rank
factor_top q ranks v o i =
    by_test (eqb i o) (λ t. (if t then 0 else (if beats q (v i) (pos 0) then additional (if ltb (ranks o) (ranks i) then ranks i - 1 else ranks i) else 0)) ≤ 20) (λ _. omega arith)
    (λ _. by_test (beats q (v i) (pos 0)) (λ t. (if t then additional (if ltb (ranks o) (ranks i) then ranks i - 1 else ranks i) else 0) ≤ 20) (λ _. (additional_range _).1) (λ _. omega arith))

times_zero : (x : ℤ) → x *ℤ pos 0 ≡ pos 0
times_zero = solve 1 (λ x. x ⊗ lit 0 ≐ lit 0) tt

module _ (q : Question) (n : ℕ) (hn : ℕ → ℤ) (some : (i : ℕ) → i < n → NoBetter q (pos 0) (hn i)) (o : ℕ) (below : o < n) where
  -- the factors by rank
  abbrev f : ℕ → ℕ
  f = factor_by_rank q (rank q n hn) hn o

  -- every other lane's, also where it gives nothing
  abbrev w : ℕ → ℕ
  w i = if eqb i o then 0 else additional (place q n hn o i)

  -- the lanes that are loaded
  abbrev loaded : ℕ → Bool
  loaded i = not (eqb i o) && beats q (hn i) (pos 0)

  f_is : (i : ℕ) → f i ≡ (if eqb i o then 0 else (if beats q (hn i) (pos 0) then additional (place q n hn o i) else 0))
  unfolding factor_by_rank
  f_is i = ap (λ (p : ℕ). if eqb i o then 0 else (if beats q (hn i) (pos 0) then additional p else 0)) (rank_beside q hn n o i below)

  -- the HO lane has none
  pub factor_ho : f o ≡ 0
  factor_ho = f_is o ∙ ap (λ (t : Bool). if t then 0 else (if beats q (hn o) (pos 0) then additional (place q n hn o o) else 0)) (eq-eqb o o refl)

  -- ---- an assignment
  -- who precedes a loaded lane is loaded
  before_loaded : (i k : ℕ) → beats q (hn i) (pos 0) ≡ true → precedes q hn k i ≡ true → beats q (hn k) (pos 0) ≡ true
  before_loaded i k e p =
      by_test (beats q (hn k) (pos 0)) (λ t. t ≡ true) (λ _. refl)
      (λ t. absurd (beats_strict q (hn i) (pos 0) e (no_better_trans q _ _ _ (precedes_true q hn k i p).no_worse (beats_no q (hn k) (pos 0) t).0)))

  place_loaded : (i : ℕ) → beats q (hn i) (pos 0) ≡ true → place q n hn o i ≡ place_in q hn loaded n i
  unfolding place
  place_loaded i e = count_cong n _ _ (λ k l. both (not (eqb k o)) (beats q (hn k) (pos 0)) (precedes q hn k i) (before_loaded i k e))
    where
      both : (a b c : Bool) → (c ≡ true → b ≡ true) → (a && c) ≡ ((a && b) && c)
      both false b c h = refl
      both true b true h = sym (ap (λ (t : Bool). t && true) (h refl))
      both true true false h = refl
      both true false false h = refl

  factor_count : (g : ℕ → Bool) → g 0 ≡ false → count_to n (λ i. g (f i)) ≡ count_to (count_to n loaded) (λ j. g (additional j))
  factor_count g e = count_cong n _ _ (λ i l. ap g (f_is i) ∙ each i) ∙ places_count q hn loaded n (λ j. g (additional j))
    where
      each : (i : ℕ) → g (if eqb i o then 0 else (if beats q (hn i) (pos 0) then additional (place q n hn o i) else 0)) ≡ (loaded i && g (additional (place_in q hn loaded n i)))
      each i =
          by_test (eqb i o) (λ t. g (if t then 0 else (if beats q (hn i) (pos 0) then additional (place q n hn o i) else 0)) ≡ ((not t && beats q (hn i) (pos 0)) && g (additional (place_in q hn loaded n i)))) (λ _. e)
          (λ _. by_test (beats q (hn i) (pos 0)) (λ t. g (if t then additional (place q n hn o i) else 0) ≡ (t && g (additional (place_in q hn loaded n i)))) (λ t. ap (λ (p : ℕ). g (additional p)) (place_loaded i t)) (λ _. e))

  pub factor_assigned : assigned n f ≡ true
  factor_assigned = by_counts n (count_to n loaded) f factor_count

  -- ---- the sum
  -- leaving a lane unloaded that gives nothing changes nothing
  factor_sum : sum_to n (λ i. pos (f i) *ℤ hn i) ≡ sum_to n (λ i. pos (w i) *ℤ hn i)
  factor_sum =
      sum_cong n _ _ (λ i l. ap (λ (k : ℕ). pos k *ℤ hn i) (f_is i)
      ∙ by_test (eqb i o) (λ t. pos (if t then 0 else (if beats q (hn i) (pos 0) then additional (place q n hn o i) else 0)) *ℤ hn i ≡ pos (if t then 0 else additional (place q n hn o i)) *ℤ hn i) (λ _. refl)
      (λ _. by_test (beats q (hn i) (pos 0)) (λ t. pos (if t then additional (place q n hn o i) else 0) *ℤ hn i ≡ pos (additional (place q n hn o i)) *ℤ hn i) (λ _. refl)
      (λ t. let z : hn i ≡ pos 0 = no_better_antisym q _ _ (beats_no q (hn i) (pos 0) t).0 (some i l) in
      ap (λ (x : ℤ). pos 0 *ℤ x) z ∙ sym (ap (λ (x : ℤ). pos (additional (place q n hn o i)) *ℤ x) z ∙ times_zero (pos (additional (place q n hn o i)))))))

  -- the values but the HO lane's
  abbrev v : ℕ → ℤ
  v i = if eqb i o then pos 0 else hn i

  v_some : (i : ℕ) → i < n → NoBetter q (pos 0) (v i)
  v_some i l = by_test (eqb i o) (λ t. NoBetter q (pos 0) (if t then pos 0 else hn i)) (λ _. no_better_refl q (pos 0)) (λ _. some i l)

  -- factors without one for the HO lane count the same
  v_sum : (g : ℕ → ℕ) → g o ≡ 0 → sum_to n (λ i. pos (g i) *ℤ v i) ≡ sum_to n (λ i. pos (g i) *ℤ hn i)
  v_sum g e =
      sum_cong n _ _ (λ i l. by_test (eqb i o) (λ t. pos (g i) *ℤ (if t then pos 0 else hn i) ≡ pos (g i) *ℤ hn i)
      (λ s. times_zero (pos (g i)) ∙ sym (ap (λ (k : ℕ). pos k *ℤ hn i) (ap g (eqb-true i o s) ∙ e) ∙ solve 1 (λ x. lit 0 ⊗ x ≐ lit 0) tt (hn i))) (λ _. refl))

  -- factors by place follow the values
  v_order : (i k : ℕ) → i < n → k < n → w k < w i → NoBetter q (v k) (v i)
  unfolding place
  v_order i k a b =
      by_test (eqb k o) (λ t. (if t then 0 else additional (place q n hn o k)) < (if eqb i o then 0 else additional (place q n hn o i)) → NoBetter q (if t then pos 0 else hn k) (v i))
      (λ _ _. v_some i a)
      (λ _. by_test (eqb i o) (λ t. additional (place q n hn o k) < (if t then 0 else additional (place q n hn o i)) → NoBetter q (hn k) (if t then pos 0 else hn i))
      (λ _ h. absurd (omega arith))
      (λ _ h. later h))
    where
      later : additional (place q n hn o k) < additional (place q n hn o i) → NoBetter q (hn k) (hn i)
      later h = place_order q hn (λ k. not (eqb k o)) n i k (elim (dec_le (place q n hn o k) (place q n hn o i)) [
        | yes l ↦ absurd (let f = additional_falls _ _ l in omega arith)
        | no l ↦ omega arith
      ])

  w_top : (i : ℕ) → w i ≤ 20
  w_top i = by_test (eqb i o) (λ t. (if t then 0 else additional (place q n hn o i)) ≤ 20) (λ _. omega arith) (λ _. (additional_range (place q n hn o i)).1)

  -- as many of them pass a test as of the additional lanes' factors
  w_count : (g : ℕ → Bool) → g 0 ≡ false → count_to n (λ i. g (w i)) ≡ count_to (count_to n (λ k. not (eqb k o))) (λ j. g (additional j))
  unfolding place
  w_count g e = count_cong n _ _ (λ i l. each i) ∙ places_count q hn (λ k. not (eqb k o)) n (λ j. g (additional j))
    where
      each : (i : ℕ) → g (if eqb i o then 0 else additional (place q n hn o i)) ≡ (not (eqb i o) && g (additional (place q n hn o i)))
      each i = by_test (eqb i o) (λ t. g (if t then 0 else additional (place q n hn o i)) ≡ (not t && g (additional (place q n hn o i)))) (λ _. e) (λ _. refl)

  -- no assignment to other lanes beats the factors by rank
  pub assignment_unbeaten : (ho : ℤ) (g : ℕ → ℕ) → g o ≡ 0 → assigned n g ≡ true → NoBetter q (overload_sum n hn ho g) (overload_sum n hn ho f)
  unfolding overload_sum
  assignment_unbeaten ho g none a =
      no_better_add q (pos 20 *ℤ ho) (pos 20 *ℤ ho) _ _ (no_better_refl q _)
      (subst (λ (z : ℤ). NoBetter q z (sum_to n (λ i. pos (f i) *ℤ hn i))) (v_sum g none)
      (subst (NoBetter q (sum_to n (λ i. pos (g i) *ℤ v i))) (v_sum w (ap (λ (t : Bool). if t then 0 else additional (place q n hn o o)) (eq-eqb o o refl)) ∙ sym factor_sum)
      (factors_unbeaten q n v g w v_some v_order 20 levels (λ i l. (assigned_top n g a i l, w_top i)))))
    where
      levels : (t : ℕ) → t < 20 → count_to n (λ i. ltb t (g i)) ≤ count_to n (λ i. ltb t (w i))
      levels t h =
          let x = assigned_level n g a t (omega arith) in
          let y = w_count (ltb t) (le-ltb t 0 (omega arith)) in
          let z = count_fewer (additional_lanes n g) (count_to n (λ k. not (eqb k o))) (λ j. ltb t (additional j)) (assigned_number n g a o none) in
          omega arith

  -- nor does HO alone
  alone_unbeaten : (ho : ℤ) → NoBetter q (pos 20 *ℤ ho) (overload_sum n hn ho f)
  unfolding overload_sum
  alone_unbeaten ho =
      subst (λ (z : ℤ). NoBetter q z (pos 20 *ℤ ho +ℤ sum_to n (λ i. pos (f i) *ℤ hn i))) (solve 1 (λ x. x ⊕ lit 0 ≐ x) tt (pos 20 *ℤ ho))
      (no_better_add q (pos 20 *ℤ ho) (pos 20 *ℤ ho) (pos 0) _ (no_better_refl q _)
      (subst (λ (z : ℤ). NoBetter q z (sum_to n (λ i. pos (f i) *ℤ hn i))) (sum_zero n (λ i. pos (f i) *ℤ pos 0) (λ i l. times_zero (pos (f i))))
      (sum_mono q n _ _ (λ i l. no_better_scale q (f i) (pos 0) (hn i) (some i l)))))

  -- so they bound every choice
  pub choices_bound : (ho : ℕ → ℤ) → NoBetter q (extreme_over q (n - 1) n (λ c. beside_sum n hn ho o (λ i. factor_choice (c i)))) (overload_sum n hn (ho o) f)
  unfolding beside_sum
  choices_bound ho =
      over_least q (n - 1) n _ _ (λ c.
      let g : ℕ → ℕ = λ i. factor_choice (c i) in
      by_test (eqb (g o) 0 && assigned n g) (λ t. NoBetter q (if t then overload_sum n hn (ho o) g else pos 20 *ℤ ho o) (overload_sum n hn (ho o) f))
      (λ t. let p = and_true (eqb (g o) 0) (assigned n g) t in assignment_unbeaten (ho o) g (eqb-true (g o) 0 p.0) p.1) (λ _. alone_unbeaten (ho o)))

  -- how far from zero they are: at most four additional lanes, or nine whose most is half
  pub factor_near : n ≤ 10 → ((i : ℕ) → i < n → Within (among n hn_lane_most) (hn i)) → (ho : ℤ) → Within (among n ho_lane_most) ho → Within sum_most (overload_sum n hn ho f)
  unfolding overload_sum
  factor_near few near ho heavy =
      let all = count_but n o below in
      let number = assigned_number n f factor_assigned o factor_ho in
      let most = additional_total (additional_lanes n f) in
      by_test (ltb n 6) (λ t. ((i : ℕ) → i < n → Within (if t then hn_lane_most else hn_lane_most / 2) (hn i)) → Within (if t then ho_lane_most else ho_lane_most / 2) ho → Within sum_most (overload_sum n hn ho f))
      (λ t near heavy. let l = ltb-true n 6 t in go hn_lane_most ho_lane_most 68 (most.0.0 (omega arith)) (omega arith) near heavy)
      (λ t near heavy. go (hn_lane_most / 2) (ho_lane_most / 2) 124 (most.1.0 (omega arith)) (omega arith) near heavy) near heavy
    where
      go : (b c t : ℕ) → total (additional_lanes n f) additional ≤ t → 20 * c + t * b ≤ sum_most → ((i : ℕ) → i < n → Within b (hn i)) → Within c ho → Within sum_most (overload_sum n hn ho f)
      go b c t most fits near heavy =
          let same = total_levels n (additional_lanes n f) f additional 20 (λ t h. assigned_level n f factor_assigned t (omega arith)) (assigned_top n f factor_assigned) (λ i h. (additional_range i).1) in
          let sum : total n f ≤ t = omega arith in
          within_le (within_add (within_mul (within_pos 20 (omega arith)) heavy) (within_le (total_near b n f hn near) (mul-le-mul_right b sum))) fits
