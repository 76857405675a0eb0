-- The loadings of a rural bridge: 17 twentieths of its one lane under HN, and no lane.
use Rattle.std.specs.Prelude.{if◌then◌else◌}
use mathlib.Core.Path.{◌≡◌, refl, sym, ◌∙◌, ap, subst}
use mathlib.Core.Logic.{inr}
use mathlib.Core.Bool.{Bool, false}
use Prim.Native.Nat.{ℕ, zero, suc, ◌^◌, ◌≤◌, ◌<◌}
use native.Mathlib.Nat.{zero-div}
use native.Mathlib.Omega.{arith}
use lib.IntN.{ℤ, pos, ◌*ℤ◌}
use lib.Dec.{ltb, eqb, lit<}
use lib.ListN.{replicate}
use lib.Pow.{pow_pos}
use borrow.Author.Tests.{ne_eqb}
use Rattle.exact.specs.Bounds.{Within}
use Rattle.exact.specs.Questions.{NoBetter, extreme}
use Rattle.exact.specs.declared.Question.{Question}
use Rattle.exact.proofs.Bounds.{within_pos}
use Rattle.exact.proofs.Extremes.{no_better_refl, no_better_of_eq, no_better_antisym, extreme_bounds, extreme_least}
use Rattle.exact.proofs.Ranges.{sum_zero, count_cong}
use Rattle.exact.proofs.Ring.{◌⊕◌, ◌⊗◌, lit, ◌≐◌, solve}
use Rattle.exact.proofs.Weights.{count_false}
use Rattle.model.specs.Job.{rural, normal, overload}
use Rattle.model.specs.Lanes.{bit, reduction_for}
use Rattle.model.specs.Traffic.{set_sum, best_normal, best_on}
use Rattle.model.proofs.Signs.{empty_sum, alone_sum, multiple_zero}
use Rattle.model.proofs.Assignments.{assigned_none}
use Rattle.magnitudes.specs.Magnitudes.{sum_most}
use Rattle.sets.specs.Sets.{number_at, LoadingRight}
use Rattle.exact.proofs.Filled.{get_or_nothing}

-- no lane under HO
none_over : (n : ℕ) → n ≤ 10 → (i : ℕ) → i < n → eqb i 10 ≡ false
none_over n few i h = ne_eqb i 10 (λ e. omega arith)

-- the empty set has no lane
zero_bit : (i : ℕ) → bit 0 i ≡ false
zero_bit i = rw (zero-div (2 ^ i)) refl

-- no factor in the one lane
one_none : (i : ℕ) → i < 1 → ltb 0 (number_at (replicate 10 0) i) ≡ false
one_none i h = ap (ltb 0) (get_or_nothing 10 i 0)

-- the one lane's set
one_sum : (hn : ℕ → ℤ) → set_sum (reduction_for rural) 1 hn 1 ≡ pos 17 *ℤ hn 0
unfolding set_sum
one_sum hn = solve 1 (λ x. lit 17 ⊗ (lit 0 ⊕ x) ≐ lit 17 ⊗ x) tt (hn 0)

-- neither of its two sets beats it
one_unbeaten : (q : Question) (hn : ℕ → ℤ) → NoBetter q (pos 0) (hn 0) → (s : ℕ) → s ≤ 1 → NoBetter q (set_sum (reduction_for rural) 1 hn s) (set_sum (reduction_for rural) 1 hn 1)
one_unbeaten q hn some zero h =
    subst (NoBetter q (set_sum (reduction_for rural) 1 hn 0)) (sym (one_sum hn))
    (subst (λ (x : ℤ). NoBetter q x (pos 17 *ℤ hn 0)) (sym (empty_sum (reduction_for rural) 1 hn)) (multiple_zero q 17 (hn 0) some))
one_unbeaten q hn some (suc zero) h = no_better_refl q _
one_unbeaten q hn some (suc (suc s)) h = absurd (omega arith)

pub one_right : (q : Question) (hn ho : ℕ → ℤ) (x : ℤ) → NoBetter q (pos 0) (hn 0) → x ≡ pos 17 *ℤ hn 0 → Within sum_most x → LoadingRight q rural normal 1 hn ho (record { value = x; lane = 10; set = 1; factors = replicate 10 0 })
unfolding best_on best_normal
one_right q hn ho x some is near =
    let f = set_sum (reduction_for rural) 1 hn in
    let own : x ≡ f 1 = is ∙ sym (one_sum hn) in
    record {
      lane = inr refl;
      kinds = refl;
      small = lit< tt;
      apart = refl;
      factors = record { lanes = one_none; counts = assigned_none 1 _ (λ i h. get_or_nothing 10 i 0) };
      past = λ i h. get_or_nothing 10 i 0;
      value = own ∙ one_sum hn ∙ solve 1 (λ x. lit 17 ⊗ x ≐ lit 17 ⊗ (lit 0 ⊕ x)) tt (hn 0);
      best = own ∙ no_better_antisym q (f 1) (extreme q 1 f) (extreme_bounds q 1 f 1 (omega arith)) (extreme_least q 1 f (f 1) (one_unbeaten q hn some));
      near = near;
    }

-- where it gives nothing, the empty set is as good
pub idle_right : (q : Question) (hn ho : ℕ → ℤ) → hn 0 ≡ pos 0 → LoadingRight q rural normal 1 hn ho (record { value = pos 0; lane = 10; set = 0; factors = replicate 10 0 })
unfolding best_on best_normal set_sum
idle_right q hn ho none =
    let f = set_sum (reduction_for rural) 1 hn in
    record {
      lane = inr refl;
      kinds = refl;
      small = lit< tt;
      apart = refl;
      factors = record { lanes = one_none; counts = assigned_none 1 _ (λ i h. get_or_nothing 10 i 0) };
      past = λ i h. get_or_nothing 10 i 0;
      value = refl;
      best = ap (λ (z : ℤ). pos 17 *ℤ z) (sym none) ∙ sym (one_sum hn) ∙ no_better_antisym q (f 1) (extreme q 1 f) (extreme_bounds q 1 f 1 (omega arith)) (extreme_least q 1 f (f 1) (one_unbeaten q hn (no_better_of_eq q (sym none))));
      near = within_pos sum_most (omega arith);
    }

pub none_right : (q : Question) (n : ℕ) (hn ho : ℕ → ℤ) → n ≤ 10 → LoadingRight q rural overload n hn ho (record { value = pos 0; lane = 10; set = 0; factors = replicate 10 0 })
unfolding best_on
none_right q n hn ho few =
    let no = none_over n few in
    record {
      lane = inr refl;
      kinds = (count_cong n _ (λ i. false) (λ i h. zero_bit i) ∙ count_false n, count_cong n _ (λ i. false) no ∙ count_false n);
      small = pow_pos n;
      apart = refl;
      factors = record { lanes = λ i h. ap (ltb 0) (get_or_nothing 10 i 0) ∙ sym (zero_bit i); counts = assigned_none n _ (λ i h. get_or_nothing 10 i 0) };
      past = λ i h. get_or_nothing 10 i 0;
      value =
          ap (λ (z : ℤ). pos 20 *ℤ z) (sym (sum_zero n _ (λ i h. ap (λ (t : Bool). if t then ho i else pos 0) (no i h))))
          ∙ sym (alone_sum n _ _ _ (λ i h. get_or_nothing 10 i 0));
      best = refl;
      near = within_pos sum_most (omega arith);
    }
