-- Factors by levels: no factors beat factors in the order of the values, and how far from zero what they count is.
use Rattle.std.specs.Prelude.{if◌then◌else◌}
use mathlib.Core.Path.{◌≡◌, refl, sym, ◌∙◌, ap, subst}
use Prim.Native.Nat.{ℕ, zero, suc, ◌+◌, ◌-◌, ◌*◌, ◌≤◌, ◌<◌}
use native.Mathlib.Nat.{mul-suc}
use native.Mathlib.Decide.{dec_le}
use native.Mathlib.Omega.{arith}
use lib.IntN.{ℤ, pos, ◌+ℤ◌, ◌*ℤ◌}
use lib.Dec.{ltb}
use borrow.Author.Tests.{ltb-true, ltb-false}
use Rattle.exact.specs.Bounds.{Within}
use Rattle.exact.specs.Questions.{NoBetter}
use Rattle.exact.specs.Ranges.{sum_to, count_to}
use Rattle.exact.specs.declared.Question.{Question}
use Rattle.exact.proofs.Bounds.{within_le, within_pos, within_add, within_mul}
use Rattle.exact.proofs.Bridge.{by_test}
use Rattle.exact.proofs.Extremes.{no_better_of_eq, no_better_add}
use Rattle.exact.proofs.Ranges.{sum_cong, sum_add}
use Rattle.exact.proofs.Ring.{◌⊕◌, ◌⊗◌, lit, ◌≐◌, solve}
use Rattle.exact.proofs.Weights.{sum_where, choice_unbeaten}

-- a factor up to t
abbrev up_to : ℕ → ℕ → ℕ
up_to t f = f - (f - t)

-- the part of the sum up to level t
abbrev level : (n : ℕ) → (v : ℕ → ℤ) → (f : ℕ → ℕ) → ℕ → ℤ
level n v f t = sum_to n (λ i. pos (up_to t (f i)) *ℤ v i)

-- one level more: the values whose factor reaches it
level_step : (n : ℕ) (v : ℕ → ℤ) (f : ℕ → ℕ) (t : ℕ) → level n v f (suc t) ≡ level n v f t +ℤ sum_where n (λ i. ltb t (f i)) v
level_step n v f t = sum_cong n _ _ (λ i _. one (f i) (v i)) ∙ sum_add n (λ i. pos (up_to t (f i)) *ℤ v i) (λ i. if ltb t (f i) then v i else pos 0)
  where
    one : (f : ℕ) (x : ℤ) → pos (up_to (suc t) f) *ℤ x ≡ pos (up_to t f) *ℤ x +ℤ (if ltb t f then x else pos 0)
    one f x =
        by_test (ltb t f) (λ b. pos (up_to (suc t) f) *ℤ x ≡ pos (up_to t f) *ℤ x +ℤ (if b then x else pos 0))
        (λ e. let h = ltb-true t f e in ap (λ (m : ℕ). pos m *ℤ x) (omega arith) ∙ solve 2 (λ m x. (m ⊕ lit 1) ⊗ x ≐ m ⊗ x ⊕ x) tt (pos (up_to t f)) x)
        (λ e. let h = ltb-false t f e in ap (λ (m : ℕ). pos m *ℤ x) (omega arith) ∙ solve 2 (λ m x. m ⊗ x ≐ m ⊗ x ⊕ lit 0) tt (pos (up_to t f)) x)

-- where values are never worse than 0: no factors beat w, whose factors follow the values and reach each level at least as often
pub factors_unbeaten : (q : Question) (n : ℕ) (v : ℕ → ℤ) (f w : ℕ → ℕ) → ((i : ℕ) → i < n → NoBetter q (pos 0) (v i)) →
    ((i k : ℕ) → i < n → k < n → w k < w i → NoBetter q (v k) (v i)) → (top : ℕ) →
    ((t : ℕ) → t < top → count_to n (λ i. ltb t (f i)) ≤ count_to n (λ i. ltb t (w i))) → ((i : ℕ) → i < n → (f i ≤ top) × (w i ≤ top)) → NoBetter q (sum_to n (λ i. pos (f i) *ℤ v i)) (sum_to n (λ i. pos (w i) *ℤ v i))
factors_unbeaten q n v f w some order top counts below =
    subst (λ (z : ℤ). NoBetter q z (sum_to n (λ i. pos (w i) *ℤ v i))) (whole f (λ i h. (below i h).0))
    (subst (NoBetter q (level n v f top)) (whole w (λ i h. (below i h).1)) (levels top (omega arith)))
  where
    whole : (f : ℕ → ℕ) → ((i : ℕ) → i < n → f i ≤ top) → level n v f top ≡ sum_to n (λ i. pos (f i) *ℤ v i)
    whole f h = sum_cong n _ _ (λ i l. ap (λ (m : ℕ). pos m *ℤ v i) (let k = h i l in omega arith))

    levels : (t : ℕ) → t ≤ top → NoBetter q (level n v f t) (level n v w t)
    levels zero l = no_better_of_eq q (sum_cong n _ _ (λ i _. ap (λ (m : ℕ). pos m *ℤ v i) (omega arith)))
    levels (suc t) m =
        subst (λ (z : ℤ). NoBetter q z (level n v w (suc t))) (sym (level_step n v f t))
        (subst (NoBetter q (level n v f t +ℤ sum_where n (λ i. ltb t (f i)) v)) (sym (level_step n v w t))
        (no_better_add q _ _ _ _ (levels t (omega arith))
        (choice_unbeaten q n v (λ i. ltb t (f i)) (λ i. ltb t (w i)) some
        (λ i k h l a _ b. order i k h l (let x = ltb-true t (w i) a in let y = ltb-false t (w k) b in omega arith)) (counts t m))))

-- ---- sums
-- the factors together
abbrev pub total : (n : ℕ) → (ℕ → ℕ) → ℕ
total zero f = 0
total (suc n) f = total n f + f n

pub total_cong : (n : ℕ) (f g : ℕ → ℕ) → ((i : ℕ) → i < n → f i ≡ g i) → total n f ≡ total n g
total_cong zero f g h = refl
total_cong (suc n) f g h = let a = total_cong n f g (λ i l. h i (omega arith)) in let b = h n (omega arith) in omega arith

-- fewer are no more, and n of at least c are at least n c
pub total_fewer : (m n : ℕ) (f : ℕ → ℕ) → m ≤ n → total m f ≤ total n f
total_fewer m zero f h = let e : m ≡ 0 = omega arith in rw e (omega arith)
total_fewer m (suc n) f h = elim (dec_le m n) [
  | yes l ↦ let a = total_fewer m n f l in omega arith
  | no l ↦ let e : m ≡ suc n = omega arith in rw e (omega arith)
]

pub total_least : (n c : ℕ) (f : ℕ → ℕ) → ((i : ℕ) → i < n → c ≤ f i) → c * n ≤ total n f
total_least zero c f h = omega arith
total_least (suc n) c f h = let a = total_least n c f (λ i l. h i (omega arith)) in let b = h n (omega arith) in omega (arith, mul-suc c n)

total_step : (n : ℕ) (f : ℕ → ℕ) (t : ℕ) → total n (λ i. up_to (suc t) (f i)) ≡ total n (λ i. up_to t (f i)) + count_to n (λ i. ltb t (f i))
total_step zero f t = refl
total_step (suc n) f t = let a = total_step n f t in let b = each (f n) in omega arith
  where
    each : (x : ℕ) → up_to (suc t) x ≡ up_to t x + (if ltb t x then 1 else 0)
    each x = by_test (ltb t x) (λ b. up_to (suc t) x ≡ up_to t x + (if b then 1 else 0)) (λ e. let h = ltb-true t x e in omega arith) (λ e. let h = ltb-false t x e in omega arith)

-- factors that reach each level as often are as much together
pub total_levels : (n m : ℕ) (f g : ℕ → ℕ) (top : ℕ) → ((t : ℕ) → t < top → count_to n (λ i. ltb t (f i)) ≡ count_to m (λ i. ltb t (g i))) →
    ((i : ℕ) → i < n → f i ≤ top) → ((i : ℕ) → i < m → g i ≤ top) → total n f ≡ total m g
total_levels n m f g top counts below below' = sym (whole n f below) ∙ levels top (omega arith) ∙ whole m g below'
  where
    whole : (n : ℕ) (f : ℕ → ℕ) → ((i : ℕ) → i < n → f i ≤ top) → total n (λ i. up_to top (f i)) ≡ total n f
    whole n f h = total_cong n _ f (λ i l. let k = h i l in omega arith)

    none : (n : ℕ) (f : ℕ → ℕ) → total n (λ i. up_to 0 (f i)) ≡ 0
    none zero f = refl
    none (suc n) f = let a = none n f in omega arith

    levels : (t : ℕ) → t ≤ top → total n (λ i. up_to t (f i)) ≡ total m (λ i. up_to t (g i))
    levels zero l = none n f ∙ sym (none m g)
    levels (suc t) l = let a = total_step n f t in let b = total_step m g t in let c = levels t (omega arith) in let d = counts t l in omega arith

-- what values of at most b from zero give at factors
pub total_near : (b n : ℕ) (f : ℕ → ℕ) (v : ℕ → ℤ) → ((i : ℕ) → i < n → Within b (v i)) → Within (total n f * b) (sum_to n (λ i. pos (f i) *ℤ v i))
total_near b zero f v near = within_pos _ (omega arith)
total_near b (suc n) f v near =
    within_le (within_add (total_near b n f v (λ i l. near i (omega arith))) (within_mul (within_pos (f n) (omega arith)) (near n (omega arith)))) (omega arith)
