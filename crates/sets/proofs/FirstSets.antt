-- Normal: no set of lanes beats that of as many first lanes by rank.
use mathlib.Core.Path.{◌≡◌, refl, sym, ◌∙◌, ap, subst}
use mathlib.Core.Bool.{Bool, true}
use Prim.Native.Nat.{ℕ, ◌^◌, ◌≤◌, ◌<◌}
use native.Mathlib.Omega.{arith}
use lib.IntN.{ℤ, pos, ◌*ℤ◌}
use lib.Dec.{ltb}
use borrow.Author.Tests.{ltb-true, ltb-false}
use Rattle.exact.specs.Questions.{NoBetter}
use Rattle.exact.specs.Ranges.{count_to}
use Rattle.exact.specs.declared.Question.{Question}
use Rattle.exact.proofs.Counting.{count_below, count_all}
use Rattle.exact.proofs.Extremes.{no_better_scale}
use Rattle.exact.proofs.Weights.{sum_where, count_le, choice_unbeaten}
use Rattle.model.specs.Lanes.{bit, twentieths, reduction}
use Rattle.model.specs.Traffic.{set_sum}
use Rattle.model.proofs.Sets.{ones_count}
use Rattle.sets.specs.Sets.{rank}
use Rattle.sets.proofs.Places.{places_count, place_order}

-- the lanes that pass a test, at the r of their number
abbrev pub reduced_sum : (n : ℕ) → (ℕ → Bool) → (ℕ → ℤ) → ℤ
reduced_sum n test v = reduction (count_to n test) *ℤ sum_where n test v

-- those of a set
pub reduced_set : (n : ℕ) (v : ℕ → ℤ) (set : ℕ) → set < 2 ^ n → set_sum reduction n v set ≡ reduced_sum n (bit set) v
unfolding set_sum
reduced_set n v set small = ap (λ (m : ℕ). reduction m *ℤ sum_where n (bit set) v) (ones_count n set small)

module _ (q : Question) (n : ℕ) (v : ℕ → ℤ) (some : (i : ℕ) → i < n → NoBetter q (pos 0) (v i)) where
  -- the lanes of the m first ranks
  abbrev among : ℕ → ℕ → Bool
  among m i = ltb (rank q n v i) m

  -- they are m
  first_counts : (m : ℕ) → m ≤ n → count_to n (among m) ≡ m
  unfolding rank
  first_counts m h =
      places_count q v (λ k. true) n (λ j. ltb j m)
      ∙ ap (λ (k : ℕ). count_to k (λ j. ltb j m)) (count_all n (λ k. true) (λ i l. refl))
      ∙ count_below n m h

  pub first_unbeaten : (set : ℕ) → set < 2 ^ n → NoBetter q (set_sum reduction n v set) (reduced_sum n (among (count_to n (bit set))) v)
  unfolding rank
  first_unbeaten set small =
      let m = count_to n (bit set) in
      let e = first_counts m (count_le n (bit set)) in
      subst (λ (z : ℤ). NoBetter q z (reduced_sum n (among m) v)) (sym (reduced_set n v set small))
      (subst (λ (k : ℕ). NoBetter q (reduction m *ℤ sum_where n (bit set) v) (reduction k *ℤ sum_where n (among m) v)) (sym e)
      (no_better_scale q (twentieths m) _ _
      (choice_unbeaten q n v (bit set) (among m) some
      (λ i k a b s _ t. place_order q v (λ k. true) n i k (let x = ltb-true _ m s in let y = ltb-false _ m t in omega arith))
      (omega arith))))
