-- Sums over chosen numbers of a range: one number more, and that no choice beats one of as many whose values are no worse.
use Rattle.std.specs.Prelude.{if◌then◌else◌}
use mathlib.Core.Path.{◌≡◌, refl, ◌∙◌, ap, ap₂, subst}
use mathlib.Core.Bool.{Bool, true, false}
use Prim.Native.Nat.{ℕ, zero, suc, ◌+◌, ◌-◌, ◌*◌, ◌≤◌, ◌<◌}
use native.Mathlib.Decide.{dec_le}
use native.Mathlib.Omega.{arith}
use lib.IntN.{ℤ, pos, ◌+ℤ◌, ◌*ℤ◌}
use lib.Dec.{eqb}
use borrow.Author.Tests.{eq-eqb, ne_eqb}
use Rattle.exact.specs.Bounds.{Within}
use Rattle.exact.specs.Questions.{NoBetter, extreme}
use Rattle.exact.specs.Ranges.{sum_to, count_to}
use Rattle.exact.specs.declared.Question.{Question}
use Rattle.exact.specs.declared.Question.TheVariants.{Greatest, Least}
use Rattle.exact.proofs.Bounds.{within_le, within_pos, within_add}
use Rattle.exact.proofs.Bridge.{by_test}
use Rattle.exact.proofs.Extremes.{no_better_refl, no_better_trans, no_better_add, no_better_scale, extreme_bounds, extreme_least}
use Rattle.exact.proofs.Ranges.{sum_mono, sum_add, count_cong}
use Rattle.exact.proofs.Ring.{◌⊕◌, ◌⊗◌, lit, ◌≐◌, ◌≼◌, ◌⇒◌, solve, linear}

-- ---- counts
pub one_le : (s t : Bool) → (s ≡ true → t ≡ true) → (if s then 1 else 0) ≤ (if t then 1 else 0)
one_le false t h = omega arith
one_le true t h = rw (h refl) (omega arith)

-- of a part
pub count_part : (n : ℕ) (f g : ℕ → Bool) → ((k : ℕ) → k < n → f k ≡ true → g k ≡ true) → count_to n f ≤ count_to n g
count_part zero f g h = omega arith
count_part (suc n) f g h = let a = count_part n f g (λ k l. h k (omega arith)) in let b = one_le (f n) (g n) (h n (omega arith)) in omega arith

-- at most as many as there are
pub count_le : (n : ℕ) (f : ℕ → Bool) → count_to n f ≤ n
count_le zero f = omega arith
count_le (suc n) f = let a = count_le n f in let b = one_le (f n) true (λ _. refl) in omega arith

pub count_false : (n : ℕ) → count_to n (λ i. false) ≡ 0
count_false zero = refl
count_false (suc n) = ap (λ (m : ℕ). m + 0) (count_false n)

-- one more
pub count_with : (n o : ℕ) (f : ℕ → Bool) → o < n → f o ≡ false → count_to n (λ i. if eqb i o then true else f i) ≡ suc (count_to n f)
count_with zero o f h e = absurd (omega arith)
count_with (suc n) o f h e = elim (dec_le n o) [
  | yes l ↦
      let s : n ≡ o = omega arith in
      let a = count_cong n (λ i. if eqb i o then true else f i) f (λ i k. ap (λ (t : Bool). if t then true else f i) (ne_eqb i o (λ r. omega arith))) in
      rw (eq-eqb n o s, ap f s ∙ e) (omega arith)
  | no l ↦ rw (ne_eqb n o (λ r. omega arith)) (let a = count_with n o f (omega arith) e in omega arith)
]

-- ---- sums
-- what the chosen give together
abbrev pub sum_where : (n : ℕ) → (ℕ → Bool) → (ℕ → ℤ) → ℤ
sum_where n test v = sum_to n (λ i. if test i then v i else pos 0)

-- how far from zero they are
pub sum_near : (b n : ℕ) (test : ℕ → Bool) (v : ℕ → ℤ) → ((i : ℕ) → i < n → Within b (v i)) → Within (b * count_to n test) (sum_where n test v)
sum_near b zero test v near = within_pos _ (omega arith)
sum_near b (suc n) test v near = within_le (within_add (sum_near b n test v (λ i l. near i (omega arith))) (part (test n))) (omega arith)
  where
    part : (t : Bool) → Within (b * (if t then 1 else 0)) (if t then v n else pos 0)
    part true = within_le (near n (omega arith)) (omega arith)
    part false = within_pos _ (omega arith)

-- the same value in each
sum_const : (n : ℕ) (test : ℕ → Bool) (c : ℤ) → sum_where n test (λ i. c) ≡ pos (count_to n test) *ℤ c
sum_const zero test c = solve 1 (λ c. lit 0 ≐ lit 0 ⊗ c) tt c
sum_const (suc n) test c = ap (λ (z : ℤ). z +ℤ (if test n then c else pos 0)) (sum_const n test c) ∙ one (test n) (count_to n test)
  where
    one : (t : Bool) (m : ℕ) → pos m *ℤ c +ℤ (if t then c else pos 0) ≡ pos (m + (if t then 1 else 0)) *ℤ c
    one true m = solve 2 (λ m c. m ⊗ c ⊕ c ≐ (m ⊕ lit 1) ⊗ c) tt (pos m) c
    one false m = solve 2 (λ m c. m ⊗ c ⊕ lit 0 ≐ (m ⊕ lit 0) ⊗ c) tt (pos m) c

-- ---- choices
-- what is added to both sides drops
no_better_drop : (q : Question) (x y z : ℤ) → NoBetter q (x +ℤ z) (y +ℤ z) → NoBetter q x y
no_better_drop Greatest x y z = linear 3 (λ x y z. x ⊕ z ≼ y ⊕ z ⇒ x ≼ y) x y z (omega arith)
no_better_drop Least x y z = linear 3 (λ x y z. y ⊕ z ≼ x ⊕ z ⇒ y ≼ x) x y z (omega arith)

-- more of what is no worse than 0 is no worse
pub no_better_more : (q : Question) (a b : ℕ) (c : ℤ) → NoBetter q (pos 0) c → a ≤ b → NoBetter q (pos a *ℤ c) (pos b *ℤ c)
no_better_more q a b c h l =
    let e : a + (b - a) ≡ b = omega arith in
    subst (λ (m : ℕ). NoBetter q (pos a *ℤ c) (pos m *ℤ c)) e
    (subst (NoBetter q (pos a *ℤ c)) (solve 3 (λ a d c. a ⊗ c ⊕ d ⊗ c ≐ (a ⊕ d) ⊗ c) tt (pos a) (pos (b - a)) c)
    (subst (λ (z : ℤ). NoBetter q z (pos a *ℤ c +ℤ pos (b - a) *ℤ c)) (solve 3 (λ a d c. a ⊗ c ⊕ d ⊗ lit 0 ≐ a ⊗ c) tt (pos a) (pos (b - a)) c)
    (no_better_add q _ _ _ _ (no_better_refl q (pos a *ℤ c)) (no_better_scale q (b - a) (pos 0) c h))))

-- P's values are no worse than c, those of S outside P no better, and c no worse than 0
module _ (q : Question) (n : ℕ) (v : ℕ → ℤ) (S P : ℕ → Bool) (c : ℤ) (inside : (i : ℕ) → i < n → P i ≡ true → NoBetter q c (v i)) (outside : (i : ℕ) → i < n → S i ≡ true → P i ≡ false → NoBetter q (v i) c) where
  -- a number of S and not of P, or the other way round
  exchange : (x : ℤ) (s p : Bool) → (p ≡ true → NoBetter q c x) → (s ≡ true → p ≡ false → NoBetter q x c) →
      NoBetter q ((if s then x else pos 0) +ℤ (if p then c else pos 0)) ((if p then x else pos 0) +ℤ (if s then c else pos 0))
  exchange x true true f g = no_better_refl q _
  exchange x false false f g = no_better_refl q _
  exchange x true false f g = subst (NoBetter q (x +ℤ pos 0)) (solve 1 (λ c. c ⊕ lit 0 ≐ lit 0 ⊕ c) tt c) (no_better_add q x c (pos 0) (pos 0) (g refl refl) (no_better_refl q (pos 0)))
  exchange x false true f g = subst (NoBetter q (pos 0 +ℤ c)) (solve 1 (λ x. lit 0 ⊕ x ≐ x ⊕ lit 0) tt x) (no_better_add q (pos 0) (pos 0) c x (no_better_refl q (pos 0)) (f refl))

  by_threshold : NoBetter q (pos 0) c → count_to n S ≤ count_to n P → NoBetter q (sum_where n S v) (sum_where n P v)
  by_threshold h l =
      no_better_drop q (sum_where n S v) (sum_where n P v) (pos (count_to n P) *ℤ c)
      (no_better_trans q _ (sum_where n P v +ℤ pos (count_to n S) *ℤ c) _
      (subst (λ (z : ℤ). NoBetter q (sum_where n S v +ℤ pos (count_to n P) *ℤ c) z) (both P S)
      (subst (λ (z : ℤ). NoBetter q z (sum_to n (λ i. (if P i then v i else pos 0) +ℤ (if S i then c else pos 0)))) (both S P)
      (sum_mono q n _ _ (λ i k. exchange (v i) (S i) (P i) (inside i k) (outside i k)))))
      (no_better_add q (sum_where n P v) (sum_where n P v) (pos (count_to n S) *ℤ c) (pos (count_to n P) *ℤ c) (no_better_refl q _) (no_better_more q _ _ c h l)))
    where
      both : (A B : ℕ → Bool) → sum_to n (λ i. (if A i then v i else pos 0) +ℤ (if B i then c else pos 0)) ≡ sum_where n A v +ℤ pos (count_to n B) *ℤ c
      both A B = sum_add n (λ i. if A i then v i else pos 0) (λ i. if B i then c else pos 0) ∙ ap (λ (z : ℤ). sum_where n A v +ℤ z) (sum_const n B c)

-- 0 and the values of S outside P
abbrev rest : (S P : ℕ → Bool) → (ℕ → ℤ) → ℕ → ℤ
rest S P v zero = pos 0
rest S P v (suc i) = if P i then pos 0 else (if S i then v i else pos 0)

-- where values are never worse than 0: S does not beat P, which has as many, none worse than one of S outside it
pub choice_unbeaten : (q : Question) (n : ℕ) (v : ℕ → ℤ) (S P : ℕ → Bool) → ((i : ℕ) → i < n → NoBetter q (pos 0) (v i)) →
    ((i k : ℕ) → i < n → k < n → P i ≡ true → S k ≡ true → P k ≡ false → NoBetter q (v k) (v i)) → count_to n S ≤ count_to n P → NoBetter q (sum_where n S v) (sum_where n P v)
choice_unbeaten q n v S P some order =
    by_threshold q n v S P (extreme q n (rest S P v))
    (λ i h e. extreme_least q n (rest S P v) (v i) (each i h e))
    (λ i h s e. subst (λ (z : ℤ). NoBetter q z (extreme q n (rest S P v))) (ap₂ (λ (t u : Bool). if t then pos 0 else (if u then v i else pos 0)) e s) (extreme_bounds q n (rest S P v) (suc i) (omega arith)))
    (extreme_bounds q n (rest S P v) 0 (omega arith))
  where
    each : (i : ℕ) → i < n → P i ≡ true → (j : ℕ) → j ≤ n → NoBetter q (rest S P v j) (v i)
    each i h e zero l = some i h
    each i h e (suc k) l =
        by_test (P k) (λ t. NoBetter q (if t then pos 0 else (if S k then v k else pos 0)) (v i)) (λ _. some i h)
        (λ t. by_test (S k) (λ u. NoBetter q (if u then v k else pos 0) (v i)) (λ u. order i k h (omega arith) e u t) (λ _. some i h))
