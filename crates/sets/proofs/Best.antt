-- The best loading of each live kind: of the first lanes by rank, and of the HO lanes.
use Rattle.std.specs.Prelude.{if◌then◌else◌}
use mathlib.Core.Path.{◌≡◌, refl, sym, ◌∙◌, ap, ap₂, subst}
use mathlib.Core.Logic.{inl, inr}
use mathlib.Core.Bool.{Bool, true, false}
use mathlib.Core.List.{List}
use Prim.Native.Nat.{ℕ, suc, ◌+◌, ◌-◌, ◌^◌, ◌≤◌, ◌<◌}
use native.Mathlib.Decide.{dec_le}
use native.Mathlib.Omega.{arith}
use lib.IntN.{ℤ, pos, ◌*ℤ◌}
use lib.Dec.{ltb, eqb}
use lib.Pow.{le_ones, lt_of_le_ones}
use borrow.Author.Tests.{le-ltb, eq-eqb, ne_eqb}
use Rattle.exact.specs.Bounds.{Within}
use Rattle.exact.specs.Questions.{NoBetter, beats, better_by, extreme, extreme_over}
use Rattle.exact.specs.Ranges.{sum_to, count_to}
use Rattle.exact.specs.declared.Question.{Question}
use Rattle.exact.proofs.Bridge.{by_test}
use Rattle.exact.proofs.Extremes.{no_better_refl, no_better_trans, no_better_antisym, better_by_ind, better_by_left, better_by_right, extreme_bounds, extreme_least}
use Rattle.exact.proofs.Ranges.{sum_cong, sum_one, count_cong}
use Rattle.exact.proofs.Weights.{count_false, count_le, count_with, sum_near}
use Rattle.model.specs.Job.{highway, normal, overload}
use Rattle.model.specs.Lanes.{bit, reduction, additional}
use Rattle.model.specs.Traffic.{set_sum, best_normal, overload_sum, factor_choice, beside_sum, best_overload, best_on}
use Rattle.model.proofs.Assignments.{assigned_cong, assigned_none, factored, overload_cong, overload_unbeaten}
use Rattle.magnitudes.specs.Magnitudes.{hn_lane_most, ho_lane_most, among, sum_most}
use Rattle.sets.specs.Sets.{number_at, ValuesFit, rank, Ranked, FirstAt, factor_by_rank, OverloadAt, LoadingRight}
use Rattle.sets.specs.declared.Loading.{Loading}
use Rattle.sets.proofs.Factors.{factor_ho, factor_assigned, choices_bound, factor_near}
use Rattle.sets.proofs.FirstSets.{reduced_sum, reduced_set, first_unbeaten}
use Rattle.sets.proofs.Reduced.{reduced_near}
use Rattle.sets.proofs.SetNumbers.{bit_past}

-- ---- of several loadings
-- the best of the first m, whose values are f
pub record BestTo (q : Question) (At : ℕ → Loading → Type 0) (f : ℕ → ℤ) (m : ℕ) (r : Loading) : Type 0 where
  pub at : ℕ
  pub below : at < m
  pub is : At at r
  pub unbeaten : (j : ℕ) → j < m → NoBetter q (f j) r.value

module _ (q : Question) (At : ℕ → Loading → Type 0) (f : ℕ → ℤ) (gives : (j : ℕ) (r : Loading) → At j r → r.value ≡ f j) where
  own : (j : ℕ) (r : Loading) → At j r → NoBetter q (f j) r.value
  own j r a = subst (NoBetter q (f j)) (sym (gives j r a)) (no_better_refl q (f j))

  -- what is compared of a loading
  abbrev sum : Loading → ℤ
  sum r = r.value

  pub best_more : (m : ℕ) (x y r : Loading) → BestTo q At f m x → At m y → r ≡ better_by sum q x y → BestTo q At f (m + 1) r
  best_more m x y r b a is =
      let l = b.below in
      subst (BestTo q At f (m + 1)) (sym is)
      (better_by_ind sum q (λ (z : Loading). NoBetter q x.value z.value → NoBetter q y.value z.value → BestTo q At f (m + 1) z) x y
      (λ old new. record { at = b.at; below = omega arith; is = b.is; unbeaten = both x.value old new })
      (λ old new. record { at = m; below = omega arith; is = a; unbeaten = both y.value old new }) (better_by_left sum q x y) (better_by_right sum q x y))
    where
      both : (z : ℤ) → NoBetter q x.value z → NoBetter q y.value z → (j : ℕ) → j < m + 1 → NoBetter q (f j) z
      both z old new j h = elim (dec_le m j) [
        | yes l ↦ let same : m ≡ j = omega arith in subst (λ (j : ℕ). NoBetter q (f j) z) same (no_better_trans q _ _ z (own m y a) new)
        | no l ↦ no_better_trans q _ _ z (b.unbeaten j (omega arith)) old
      ]

-- ---- by the ranks in hand
-- what the lanes give whose rank is below m
abbrev pub first_sum : (n : ℕ) → (hn : ℕ → ℤ) → (ranks : List ℕ) → (m : ℕ) → ℤ
first_sum n hn ranks m = reduced_sum n (λ i. ltb (number_at ranks i) m) hn

-- the factors beside HO in lane o, and what they give with it
abbrev pub held : Question → (hn : ℕ → ℤ) → (ranks : List ℕ) → (o i : ℕ) → ℕ
held q hn ranks o = factor_by_rank q (number_at ranks) hn o

abbrev pub held_sum : Question → (n : ℕ) → (hn ho : ℕ → ℤ) → (ranks : List ℕ) → (o : ℕ) → ℤ
held_sum q n hn ho ranks o = overload_sum n hn (ho o) (held q hn ranks o)

module _ (q : Question) (n : ℕ) (hn ho : ℕ → ℤ) (few : n ≤ 10) (fit : ValuesFit q (among n hn_lane_most) n hn) (ranks : List ℕ) (ranked : Ranked q n hn ranks) where
  -- ---- normal
  -- how far from zero a set's sum is
  set_near : (set : ℕ) → Within sum_most (reduced_sum n (bit set) hn)
  set_near set = reduced_near n (count_to n (bit set)) _ few (count_le n (bit set)) (sum_near (among n hn_lane_most) n (bit set) hn fit.near)

  pub normal_right : (r : Loading) → BestTo q (FirstAt n (number_at ranks) hn) (first_sum n hn ranks) (n + 1) r → LoadingRight q highway normal n hn ho r
  unfolding best_on best_normal
  normal_right r b =
      let a = b.is in
      let f = set_sum reduction n hn in
      let best = extreme q (2 ^ n - 1) f in
      let value : r.value ≡ reduced_sum n (bit r.set) hn = a.value ∙ sym (alike (bit r.set) _ a.bits) in
      record {
        lane = inr a.lane;
        kinds = count_cong n _ (λ i. false) (λ i h. ap (eqb i) a.lane ∙ ne_eqb i 10 (λ e. omega arith)) ∙ count_false n;
        small = a.small;
        apart = ap (bit r.set) a.lane ∙ bit_past n r.set 10 a.small few;
        factors = record { lanes = λ i h. ap (ltb 0) (a.none i); counts = assigned_none n _ (λ i h. a.none i) };
        past = λ i h. a.none i;
        value = value;
        best = no_better_antisym q r.value best
            (subst (λ (z : ℤ). NoBetter q z best) (reduced_set n hn r.set a.small ∙ sym value) (extreme_bounds q (2 ^ n - 1) f r.set (le_ones n a.small)))
            (extreme_least q (2 ^ n - 1) f r.value (λ s l.
            let h = lt_of_le_ones n l in
            let m = count_to n (bit s) in
            let c = count_le n (bit s) in
            no_better_trans q _ (first_sum n hn ranks m) _ (subst (NoBetter q (f s)) (alike _ _ (λ i k. ap (λ (x : ℕ). ltb x m) (sym (ranked.each i k)))) (first_unbeaten q n hn fit.some s h)) (b.unbeaten m (omega arith))));
        near = subst (Within sum_most) (sym value) (set_near r.set);
      }
    where
      alike : (s t : ℕ → Bool) → ((i : ℕ) → i < n → s i ≡ t i) → reduced_sum n s hn ≡ reduced_sum n t hn
      alike s t e = ap₂ (λ (k : ℕ) (z : ℤ). reduction k *ℤ z) (count_cong n s t e) (sum_cong n _ _ (λ i h. ap (λ (t : Bool). if t then hn i else pos 0) (e i h)))

  -- ---- overload
  same_factors : (o : ℕ) → o < n → (i : ℕ) → i < n → held q hn ranks o i ≡ factor_by_rank q (rank q n hn) hn o i
  unfolding factor_by_rank
  same_factors o l i h = ap₂ (λ (x y : ℕ). if eqb i o then 0 else (if beats q (hn i) (pos 0) then additional (if ltb x y then y - 1 else y) else 0)) (ranked.each o l) (ranked.each i h)

  same_sum : (o : ℕ) → o < n → held_sum q n hn ho ranks o ≡ overload_sum n hn (ho o) (factor_by_rank q (rank q n hn) hn o)
  same_sum o l = overload_cong n hn hn _ _ refl (λ i h. ap (λ (k : ℕ). pos k *ℤ hn i) (same_factors o l i h))

  pub overload_right : ((i : ℕ) → i < n → Within (among n ho_lane_most) (ho i)) → (r : Loading) → BestTo q (λ o. OverloadAt n (held q hn ranks o) hn (ho o) o) (held_sum q n hn ho ranks) n r → LoadingRight q highway overload n hn ho r
  unfolding best_on best_overload
  overload_right heavy r b =
      let o = b.at in
      let l = b.below in
      let a = b.is in
      let best = extreme q (n - 1) (λ o. extreme_over q (n - 1) n (λ c. beside_sum n hn ho o (λ i. factor_choice (c i)))) in
      let shown : (i : ℕ) → i < n → number_at r.factors i ≡ factor_by_rank q (rank q n hn) hn o i = λ i h. a.factors i h ∙ same_factors o l i h in
      let none : number_at r.factors o ≡ 0 = shown o l ∙ factor_ho q n hn fit.some o l in
      let lawful = assigned_cong n _ _ shown ∙ factor_assigned q n hn fit.some o l in
      let bits : (i : ℕ) → i < n → ltb 0 (number_at r.factors i) ≡ bit r.set i = λ i h. ap (ltb 0) (a.factors i h) ∙ sym (a.bits i h) in
      let value : r.value ≡ overload_sum n hn (ho o) (number_at r.factors) = a.value ∙ overload_cong n hn hn _ _ refl (λ i h. ap (λ (k : ℕ). pos k *ℤ hn i) (sym (a.factors i h))) in
      record {
        lane = inl (subst (λ (i : ℕ). i < n) (sym a.lane) l);
        kinds = count_cong n _ _ (λ i h. ap (eqb i) a.lane) ∙ count_at_one n o l;
        small = a.small;
        apart = ap (bit r.set) a.lane ∙ sym (bits o l) ∙ le-ltb 0 (number_at r.factors o) (omega arith);
        factors = record { lanes = bits; counts = lawful };
        past = a.past;
        value = value ∙ overload_cong n hn _ _ _ (sym (sum_at n o l r.lane a.lane)) (λ i h. sym (factored _ (hn i) (bit r.set i) (bits i h)));
        best = no_better_antisym q r.value best (subst (λ (z : ℤ). NoBetter q z best) (sym value) (overload_unbeaten q n hn ho o (number_at r.factors) l none lawful))
            (extreme_least q (n - 1) _ r.value (λ i h.
            no_better_trans q _ _ _ (choices_bound q n hn fit.some i (omega arith) ho) (subst (λ (z : ℤ). NoBetter q z r.value) (same_sum i (omega arith)) (b.unbeaten i (omega arith)))));
        near = subst (Within sum_most) (sym (a.value ∙ same_sum o l)) (factor_near q n hn fit.some o l few fit.near (ho o) (heavy o l));
      }
    where
      -- one lane is lane o
      count_at_one : (n o : ℕ) → o < n → count_to n (λ i. eqb i o) ≡ 1
      count_at_one n o l =
          count_cong n (λ i. eqb i o) (λ i. if eqb i o then true else false) (λ i h. by_test (eqb i o) (λ t. t ≡ (if t then true else false)) (λ _. refl) (λ _. refl))
          ∙ count_with n o (λ i. false) l refl ∙ ap suc (count_false n)

      sum_at : (n o : ℕ) → o < n → (k : ℕ) → k ≡ o → sum_to n (λ i. if eqb i k then ho i else pos 0) ≡ ho o
      sum_at n o l k e =
          sum_cong n _ _ (λ i h. ap (λ (k : ℕ). if eqb i k then ho i else pos 0) e)
          ∙ sum_one n (λ i. if eqb i o then ho i else pos 0) o l (λ i h d. ap (λ (t : Bool). if t then ho i else pos 0) (ne_eqb i o d)) ∙ ap (λ (t : Bool). if t then ho o else pos 0) (eq-eqb o o refl)
