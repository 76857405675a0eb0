-- The laws of `all_to` and `extreme_over`.
use Rattle.std.specs.Prelude.{if◌then◌else◌}
use mathlib.Core.Path.{◌≡◌, refl, sym, ap, ap₂, subst}
use mathlib.Core.Bool.{Bool, true, ◌&&◌}
use Prim.Native.Nat.{ℕ, zero, suc, ◌≤◌, ◌<◌}
use native.Mathlib.Decide.{dec_le}
use native.Mathlib.Omega.{arith}
use lib.IntN.{ℤ}
use lib.Dec.{eqb}
use borrow.Author.Tests.{eqb-true, eqb-false}
use Rattle.exact.specs.Questions.{NoBetter, extreme, extreme_over}
use Rattle.exact.specs.Ranges.{all_to}
use Rattle.exact.specs.declared.Question.{Question}
use Rattle.exact.proofs.Bridge.{by_test}
use Rattle.exact.proofs.Extremes.{no_better_of_eq, no_better_trans, extreme_bounds, extreme_least, extreme_cong}
use Rattle.exact.proofs.Counting.{and_true, and_intro}

pub all_true : (n : ℕ) (test : ℕ → Bool) → all_to n test ≡ true → (i : ℕ) → i < n → test i ≡ true
all_true zero test e i h = absurd (omega arith)
all_true (suc n) test e i h =
    let p = and_true (all_to n test) (test n) e in
    elim (dec_le n i) [ yes l ↦ let k : i ≡ n = omega arith in rw k p.1 | no l ↦ all_true n test p.0 i (omega arith) ]

pub all_intro : (n : ℕ) (test : ℕ → Bool) → ((i : ℕ) → i < n → test i ≡ true) → all_to n test ≡ true
all_intro zero test h = refl
all_intro (suc n) test h = and_intro _ _ (all_intro n test (λ i l. h i (omega arith))) (h n (omega arith))

pub all_cong : (n : ℕ) (f g : ℕ → Bool) → ((i : ℕ) → f i ≡ g i) → all_to n f ≡ all_to n g
all_cong zero f g h = refl
all_cong (suc n) f g h = ap₂ ◌&&◌ (all_cong n f g h) (h n)

-- f reads the choices for 0 .. n - 1 only
abbrev pub Reads : ℕ → ((ℕ → ℕ) → ℤ) → Type 0
Reads n f = (c d : ℕ → ℕ) → ((i : ℕ) → i < n → c i ≡ d i) → f c ≡ f d

-- no choice beats it
pub over_bounds : (q : Question) (k n : ℕ) (f : (ℕ → ℕ) → ℤ) → Reads n f → (c : ℕ → ℕ) → ((i : ℕ) → i < n → c i ≤ k) → NoBetter q (f c) (extreme_over q k n f)
over_bounds q k zero f reads c h = no_better_of_eq q (reads c (λ i. 0) (λ i l. absurd (omega arith)))
over_bounds q k (suc n) f reads c h =
    no_better_trans q _ _ _
    (subst (λ (z : ℤ). NoBetter q z (extreme q k (λ x. f (λ i. if eqb i n then x else c i)))) (reads (λ i. if eqb i n then c n else c i) c (λ i l. same i)) (extreme_bounds q k (λ x. f (λ i. if eqb i n then x else c i)) (c n) (h n (omega arith))))
    (over_bounds q k n (λ c. extreme q k (λ x. f (λ i. if eqb i n then x else c i)))
    (λ c d e. extreme_cong q k _ _ (λ x l. reads _ _ (λ i m. with i (c i) (d i) x (λ s. e i (omega arith))))) c (λ i l. h i (omega arith)))
  where
    same : (i : ℕ) → (if eqb i n then c n else c i) ≡ c i
    same i = by_test (eqb i n) (λ t. (if t then c n else c i) ≡ c i) (λ e. ap c (sym (eqb-true i n e))) (λ e. refl)

    with : (i a b x : ℕ) → (¬ (i ≡ n) → a ≡ b) → (if eqb i n then x else a) ≡ (if eqb i n then x else b)
    with i a b x h = by_test (eqb i n) (λ t. eqb i n ≡ t → (if t then x else a) ≡ (if t then x else b)) (λ _ _. refl) (λ e _. h (eqb-false i n e)) refl

-- a bound of all choices bounds their best
pub over_least : (q : Question) (k n : ℕ) (f : (ℕ → ℕ) → ℤ) (v : ℤ) → ((c : ℕ → ℕ) → NoBetter q (f c) v) → NoBetter q (extreme_over q k n f) v
over_least q k zero f v h = h (λ i. 0)
over_least q k (suc n) f v h = over_least q k n _ v (λ c. extreme_least q k _ v (λ x l. h (λ i. if eqb i n then x else c i)))

pub over_cong : (q : Question) (k n : ℕ) (f g : (ℕ → ℕ) → ℤ) → ((c : ℕ → ℕ) → f c ≡ g c) → extreme_over q k n f ≡ extreme_over q k n g
over_cong q k zero f g h = h (λ i. 0)
over_cong q k (suc n) f g h = over_cong q k n _ _ (λ c. extreme_cong q k _ _ (λ x l. h (λ i. if eqb i n then x else c i)))
