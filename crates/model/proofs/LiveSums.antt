-- The laws of a live kind's sum: equal loads, multiples of them, and loads that are no better.
use mathlib.Core.Path.{◌≡◌, refl, ◌∙◌, ap, ap₂}
use Prim.Native.Nat.{ℕ, ◌<◌}
use lib.IntN.{ℤ, pos, ◌+ℤ◌, ◌*ℤ◌}
use Rattle.exact.specs.Questions.{NoBetter}
use Rattle.exact.specs.Ranges.{sum_to}
use Rattle.exact.specs.declared.Question.{Question}
use Rattle.exact.proofs.Exact.{◌⊕◌, ◌⊗◌, lit, ◌≐◌, solve}
use Rattle.exact.proofs.Extremes.{no_better_refl, no_better_add, no_better_mul, no_better_scale}
use Rattle.exact.proofs.Ranges.{sum_cong, sum_mono, sum_scale}
use Rattle.model.specs.Job.{Profile, Live, no_traffic, normal, overload}
use Rattle.model.specs.Lanes.{reduction_for}
use Rattle.model.specs.Traffic.{overload_sum, sum_on}
use Rattle.model.proofs.Lanes.{reduction_for_nonneg}

module _ (p : Profile) (n : ℕ) where
  -- equal loads, in as many lanes, at equal factors
  pub sum_on_cong : (live : Live) {hn hn' ho ho' : ℕ → ℤ} {under under' : ℕ} {f f' : ℕ → ℕ} → ((i : ℕ) → i < n → hn i ≡ hn' i) → ((i : ℕ) → i < n → ho i ≡ ho' i) → under ≡ under' → ((i : ℕ) → i < n → f i ≡ f' i) →
      sum_on p live n hn ho under f ≡ sum_on p live n hn' ho' under' f'
  unfolding overload_sum
  sum_on_cong no_traffic a b m c = refl
  sum_on_cong normal a b m c = ap₂ (λ (k : ℕ) (x : ℤ). reduction_for p k *ℤ x) m (sum_cong n _ _ a)
  sum_on_cong overload a b m c = ap₂ (λ (x y : ℤ). pos 20 *ℤ x +ℤ y) (sum_cong n _ _ b) (sum_cong n _ _ (λ i h. ap₂ (λ (k : ℕ) (x : ℤ). pos k *ℤ x) (c i h) (a i h)))

  module _ (hn ho : ℕ → ℤ) (under : ℕ) (f : ℕ → ℕ) where
    -- a multiple of every load
    pub sum_on_scale : (live : Live) (m : ℤ) → sum_on p live n (λ i. m *ℤ hn i) (λ i. m *ℤ ho i) under f ≡ m *ℤ sum_on p live n hn ho under f
    unfolding overload_sum
    sum_on_scale no_traffic m = solve 1 (λ m. lit 0 ≐ m ⊗ lit 0) tt m
    sum_on_scale normal m =
        ap (λ (x : ℤ). reduction_for p under *ℤ x) (sum_scale n m hn) ∙ solve 3 (λ r m s. r ⊗ (m ⊗ s) ≐ m ⊗ (r ⊗ s)) tt (reduction_for p under) m (sum_to n hn)
    sum_on_scale overload m =
        ap₂ (λ (x y : ℤ). pos 20 *ℤ x +ℤ y) (sum_scale n m ho) (sum_cong n _ _ (λ i _. solve 3 (λ f m x. f ⊗ (m ⊗ x) ≐ m ⊗ (f ⊗ x)) tt (pos (f i)) m (hn i)) ∙ sum_scale n m (λ i. pos (f i) *ℤ hn i))
        ∙ solve 3 (λ m y s. lit 20 ⊗ (m ⊗ y) ⊕ m ⊗ s ≐ m ⊗ (lit 20 ⊗ y ⊕ s)) tt m (sum_to n ho) (sum_to n (λ i. pos (f i) *ℤ hn i))

    -- no better loads
    pub sum_on_mono : (q : Question) (live : Live) (hn' ho' : ℕ → ℤ) → ((i : ℕ) → i < n → NoBetter q (hn i) (hn' i)) → ((i : ℕ) → i < n → NoBetter q (ho i) (ho' i)) →
        NoBetter q (sum_on p live n hn ho under f) (sum_on p live n hn' ho' under f)
    unfolding overload_sum
    sum_on_mono q no_traffic hn' ho' a b = no_better_refl q (pos 0)
    sum_on_mono q normal hn' ho' a b = no_better_mul q (reduction_for p under) _ _ (reduction_for_nonneg p under) (sum_mono q n hn hn' a)
    sum_on_mono q overload hn' ho' a b = no_better_add q _ _ _ _ (no_better_scale q 20 _ _ (sum_mono q n ho ho' b)) (sum_mono q n _ _ (λ i h. no_better_scale q (f i) (hn i) (hn' i) (a i h)))
