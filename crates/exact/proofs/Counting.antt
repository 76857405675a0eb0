-- Counts over a range: of fewer, of a part, without one and with one put in.
use Rattle.std.specs.Prelude.{if◌then◌else◌}
use mathlib.Core.Path.{◌≡◌, refl, sym, ◌∙◌, ap, ap₂}
use mathlib.Core.Bool.{Bool, true, false, not, ◌&&◌, true≢false, false≢true}
use Prim.Native.Nat.{ℕ, zero, suc, ◌+◌, ◌-◌, ◌≤◌, ◌<◌}
use native.Mathlib.Decide.{dec_le}
use native.Mathlib.Omega.{arith}
use lib.Dec.{ltb, eqb}
use borrow.Author.Tests.{lt-ltb, le-ltb, eq-eqb, ne_eqb}
use Rattle.exact.specs.Ranges.{count_to}
use Rattle.exact.proofs.Bridge.{by_test}
use Rattle.exact.proofs.Ranges.{count_cong, count_none}
use Rattle.exact.proofs.Weights.{one_le, count_part}

-- a test as a number
abbrev pub one : Bool → ℕ
one t = if t then 1 else 0

-- both, where the second counts only with the first
pub and_cong : (s : Bool) {x y : Bool} → (s ≡ true → x ≡ y) → (s && x) ≡ (s && y)
and_cong true h = h refl
and_cong false h = refl

pub and_true : (s t : Bool) → (s && t) ≡ true → (s ≡ true) × (t ≡ true)
and_true true t e = (refl, e)
and_true false t e = absurd (false≢true e)

pub and_intro : (s t : Bool) → s ≡ true → t ≡ true → (s && t) ≡ true
and_intro s t a b = rw (a, b) refl

-- a part that lacks one
pub count_less : (n : ℕ) (f g : ℕ → Bool) → ((k : ℕ) → k < n → f k ≡ true → g k ≡ true) → (i : ℕ) → i < n → f i ≡ false → g i ≡ true → count_to n f < count_to n g
count_less zero f g h i l a b = absurd (omega arith)
count_less (suc n) f g h i l a b = elim (dec_le n i) [
  | yes m ↦
      let e : n ≡ i = omega arith in
      let c = count_part n f g (λ k l. h k (omega arith)) in
      rw (ap f e ∙ a, ap g e ∙ b) (omega arith)
  | no m ↦ let c = count_less n f g (λ k l. h k (omega arith)) i (omega arith) a b in let d = one_le (f n) (g n) (h n (omega arith)) in omega arith
]

-- fewer tests
pub count_fewer : (m n : ℕ) (f : ℕ → Bool) → m ≤ n → count_to m f ≤ count_to n f
count_fewer m zero f h = let e : m ≡ 0 = omega arith in rw e (omega arith)
count_fewer m (suc n) f h = elim (dec_le m n) [
  | yes l ↦ let a = count_fewer m n f l in omega arith
  | no l ↦ let e : m ≡ suc n = omega arith in rw e (omega arith)
]

-- the numbers below m
pub count_below : (n m : ℕ) → m ≤ n → count_to n (λ j. ltb j m) ≡ m
count_below zero m h = omega arith
count_below (suc n) m h = elim (dec_le m n) [
  | yes l ↦ rw (le-ltb n m l) (let a = count_below n m l in omega arith)
  | no l ↦
      let e : m ≡ suc n = omega arith in
      let a = count_cong n (λ j. ltb j m) (λ j. ltb j n) (λ j k. lt-ltb j m (omega arith) ∙ sym (lt-ltb j n k)) in
      let b = count_below n n (omega arith) in
      rw (lt-ltb n m (omega arith)) (omega arith)
]

pub count_all : (n : ℕ) (f : ℕ → Bool) → ((i : ℕ) → i < n → f i ≡ true) → count_to n f ≡ n
count_all zero f h = refl
count_all (suc n) f h = rw (h n (omega arith)) (let e = count_all n f (λ i l. h i (omega arith)) in omega arith)

-- one that passes
pub count_some : (n : ℕ) (f : ℕ → Bool) → 0 < count_to n f → (i : ℕ) × (i < n) × (f i ≡ true)
count_some zero f h = absurd (omega arith)
count_some (suc n) f h =
    by_test (f n) (λ t. f n ≡ t → 0 < count_to n f + one t → (i : ℕ) × (i < suc n) × (f i ≡ true))
    (λ _ e _. (n, omega arith, e)) (λ _ _ k. let r = count_some n f (omega arith) in let l = r.1 in (r.0, omega arith, r.2)) refl h

pub count_pos : (n : ℕ) (f : ℕ → Bool) (i : ℕ) → i < n → f i ≡ true → 0 < count_to n f
count_pos n f i h e = elim (dec_le (count_to n f) 0) [ yes l ↦ absurd (true≢false (sym e ∙ count_none n f (omega arith) i h)) | no l ↦ omega arith ]

-- all but one
pub count_but : (n o : ℕ) → o < n → count_to n (λ k. not (eqb k o)) ≡ n - 1
count_but zero o h = absurd (omega arith)
count_but (suc n) o h = elim (dec_le n o) [
  | yes l ↦ rw (eq-eqb n o (omega arith)) (let e = count_all n (λ k. not (eqb k o)) (λ k m. ap not (ne_eqb k o (λ s. omega arith))) in omega arith)
  | no l ↦ rw (ne_eqb n o (λ s. omega arith)) (let e = count_but n o (omega arith) in omega arith)
]

-- all that pass but one
pub count_without : (n o : ℕ) (f : ℕ → Bool) → o < n → count_to n (λ k. not (eqb k o) && f k) + one (f o) ≡ count_to n f
count_without zero o f h = absurd (omega arith)
count_without (suc n) o f h = elim (dec_le n o) [
  | yes l ↦
      let s : n ≡ o = omega arith in
      let e = count_cong n (λ k. not (eqb k o) && f k) f (λ k m. ap (λ (t : Bool). not t && f k) (ne_eqb k o (λ s. omega arith))) in
      rw (eq-eqb n o s, ap f s) (omega arith)
  | no l ↦ rw (ne_eqb n o (λ s. omega arith)) (let e = count_without n o f (omega arith) in omega arith)
]

-- ---- one put in: from r on the numbers move up
abbrev pub skip : ℕ → ℕ → ℕ
skip r j = if ltb j r then j else suc j

pub count_insert : (m r : ℕ) (g : ℕ → Bool) → r ≤ m → count_to m (λ j. g (skip r j)) + one (g r) ≡ count_to (suc m) g
count_insert m r g h = elim (dec_le m r) [
  | yes l ↦
      let e : r ≡ m = omega arith in
      ap₂ ◌+◌ (count_cong m (λ j. g (skip r j)) g (λ j k. ap (λ (t : Bool). g (if t then j else suc j)) (lt-ltb j r (omega arith)))) (ap (λ (k : ℕ). one (g k)) e)
  | no l ↦ inner m (omega arith)
]
  where
    inner : (m : ℕ) → r < m → count_to m (λ j. g (skip r j)) + one (g r) ≡ count_to (suc m) g
    inner zero h = absurd (omega arith)
    inner (suc m) h =
        let last : one (g (skip r m)) ≡ one (g (suc m)) = ap (λ (t : Bool). one (g (if t then m else suc m))) (le-ltb m r (omega arith)) in
        elim (dec_le m r) [
          | yes l ↦
              let e : r ≡ m = omega arith in
              let a = count_cong m (λ j. g (skip r j)) g (λ j k. ap (λ (t : Bool). g (if t then j else suc j)) (lt-ltb j r (omega arith))) in
              let b = ap (λ (k : ℕ). one (g k)) e in
              omega arith
          | no l ↦ let a = inner m (omega arith) in omega arith
        ]
