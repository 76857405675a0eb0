-- The digits of a number, one at a time.
use mathlib.Core.Path.{◌≡◌, refl, sym, ap, ◌∙◌}
use mathlib.Core.Bool.{Bool, cond}
use mathlib.Core.List.{[], ◌++◌}
use Prim.Native.Nat.{ℕ, zero, suc, ◌-◌, ◌/◌, ◌%◌, ◌≤◌, ◌<◌}
use native.Mathlib.Omega.{arith}
use borrow.Author.Tests.{lt-ltb, le-ltb}
use Rattle.decimal.specs.Decimal.{digit, digits}

pub digits_none : (k n : ℕ) → k ≡ 0 → [] ≡ digits k n
unfolding digits
digits_none zero n e = refl
digits_none (suc k) n e = absurd (omega arith)

pub digits_one : (k n : ℕ) → 1 ≤ k → n < 10 → digit n ≡ digits k n
unfolding digits
digits_one zero n h s = absurd (omega arith)
digits_one (suc k) n h s = sym (ap (λ (b : Bool). cond b (digit n) (digits k (n / 10) ++ digit (n % 10))) (lt-ltb n 10 s))

pub digits_more : (k n : ℕ) → 1 ≤ k → 10 ≤ n → digits (k - 1) (n / 10) ++ digit (n % 10) ≡ digits k n
unfolding digits
digits_more zero n h s = absurd (omega arith)
digits_more (suc k) n h s =
    let e : suc k - 1 ≡ k = omega arith in
    ap (λ (j : ℕ). digits j (n / 10) ++ digit (n % 10)) e
    ∙ sym (ap (λ (b : Bool). cond b (digit n) (digits k (n / 10) ++ digit (n % 10))) (le-ltb n 10 s))
