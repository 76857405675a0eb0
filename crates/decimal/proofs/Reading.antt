-- A reader of the text finds the number.
use mathlib.Core.Path.{◌≡◌, ◌∙◌}
use mathlib.Core.Bool.{Bool, true, false, cond}
use mathlib.Core.List.{List, [], ◌∷◌, ◌++◌}
use Prim.Native.Nat.{ℕ, zero, suc, ◌+◌, ◌*◌, ◌/◌, ◌%◌, ◌^◌, ◌<◌}
use native.Mathlib.Nat.{pow-succ'}
use native.Mathlib.Omega.{arith}
use lib.Dec.{ltb}
use Rattle.decimal.specs.Decimal.{digit, digits, decimal, number_from}

-- one digit more
number_digit : (s : List ℕ) (m d : ℕ) → number_from m (s ++ digit d) ≡ 10 * number_from m s + d
unfolding number_from
number_digit [] m d = omega arith
number_digit (c ∷ s) m d = number_digit s _ d

digits_read : (k n : ℕ) → n < 10 ^ k → number_from 0 (digits k n) ≡ n
unfolding number_from digits
digits_read zero n h = omega arith
digits_read (suc k) n h = by (ltb n 10) (digits_read k (n / 10))
  where
    by : (b : Bool) → (n / 10 < 10 ^ k → number_from 0 (digits k (n / 10)) ≡ n / 10) →
        number_from 0 (cond b (digit n) (digits k (n / 10) ++ digit (n % 10))) ≡ n
    by true tenth = omega arith
    by false tenth =
        let p : 10 ^ suc k ≡ 10 * 10 ^ k = pow-succ' 10 k in
        let t = tenth (omega arith) in
        number_digit (digits k (n / 10)) 0 (n % 10) ∙ omega arith

-- a number of 64 bits is read back
pub decimal_read : (n : ℕ) → n < 2 ^ 64 → number_from 0 (decimal n) ≡ n
decimal_read n h = digits_read 20 n (omega arith)
