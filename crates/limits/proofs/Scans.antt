-- A search of the items of a section for the first that has a place at fault: how it goes on and ends.
use mathlib.Core.Path.{◌≡◌, refl, ◌∙◌, ap, ap₂}
use Rattle.std.specs.Prelude.{Option, None, Some}
use Prim.Native.Nat.{ℕ, zero, suc, ◌+◌, ◌*◌, ◌≤◌, ◌<◌}
use native.Mathlib.Decide.{dec_le}
use native.Mathlib.Omega.{arith}
use Rattle.exact.specs.Choice.{or_else}
use Rattle.words.specs.Fields.{first_answer}

pub answer_none : (i n : ℕ) (f : ℕ → Option ℕ) → ((k : ℕ) → i ≤ k → k < i + n → f k ≡ None) → first_answer i n f ≡ None
answer_none i zero f h = refl
answer_none i (suc n) f h =
    ap (λ (o : Option ℕ). or_else o (first_answer (suc i) n f)) (h i (omega arith) (omega arith))
    ∙ answer_none (suc i) n f (λ k l m. h k (omega arith) (omega arith))

pub answer_some : (i n : ℕ) (f : ℕ → Option ℕ) (k r : ℕ) → i ≤ k → k < i + n → ((j : ℕ) → i ≤ j → j < k → f j ≡ None) → f k ≡ Some r → first_answer i n f ≡ Some r
answer_some i zero f k r l m h e = absurd (omega arith)
answer_some i (suc n) f k r l m h e = elim (dec_le k i) [
  | yes q ↦ let g : i ≡ k = omega arith in ap (λ (o : Option ℕ). or_else o (first_answer (suc i) n f)) (ap f g ∙ e)
  | no q ↦
      ap (λ (o : Option ℕ). or_else o (first_answer (suc i) n f)) (h i (omega arith) (omega arith))
      ∙ answer_some (suc i) n f k r (omega arith) (omega arith) (λ j a b. h j (omega arith) b) e
]

pub answer_same : (i n : ℕ) (f g : ℕ → Option ℕ) → ((k : ℕ) → i ≤ k → k < i + n → f k ≡ g k) → first_answer i n f ≡ first_answer i n g
answer_same i zero f g h = refl
answer_same i (suc n) f g h = ap₂ or_else (h i (omega arith) (omega arith)) (answer_same (suc i) n f g (λ k l m. h k (omega arith) (omega arith)))

-- the search of n items stands at i, and no item before i has a place at fault
pub record Searched (f : ℕ → Option ℕ) (n i : ℕ) : Type 0 where
  pub within : i ≤ n
  pub passed : (k : ℕ) → k < i → f k ≡ None

pub search_begins : (f : ℕ → Option ℕ) (n : ℕ) → Searched f n 0
search_begins f n = record { within = omega arith; passed = λ k l. absurd (omega arith) }

module _ {f : ℕ → Option ℕ} {n i : ℕ} (s : Searched f n i) where
  -- item i is clear
  pub search_goes_on : i < n → f i ≡ None → Searched f n (i + 1)
  search_goes_on h e =
      record {
        within = omega arith;
        passed = λ k l. elim (dec_le i k) [ yes q ↦ let g : k ≡ i = omega arith in rw g e | no q ↦ s.passed k (omega arith) ];
      }

  -- item i has a place at fault
  pub search_found : i < n → {r : ℕ} → f i ≡ Some r → first_answer 0 n f ≡ Some r
  search_found h {r} e = answer_some 0 n f i r (omega arith) (omega arith) (λ j _ l. s.passed j l) e

  -- no item is left
  pub search_over : n ≤ i → first_answer 0 n f ≡ None
  search_over h = answer_none 0 n f (λ k _ l. s.passed k (omega arith))

-- a count of what is wrong with the items before k, each adding at most 2: where it is 0, nothing is
pub record Tally (right : ℕ → Type 0) (sum k : ℕ) : Type 0 where
  pub small : sum ≤ 2 * k
  pub clear : sum ≡ 0 → (j : ℕ) → j < k → right j

pub tally_begins : {right : ℕ → Type 0} → Tally right 0 0
tally_begins = record { small = omega arith; clear = λ e j h. absurd (omega arith) }

pub tally_more : {right : ℕ → Type 0} {sum k r : ℕ} → Tally right sum k → (r ≤ 2) × (r ≡ 0 → right k) → Tally right (sum + r) (k + 1)
tally_more {right} {sum} {k} {r} t h = record {
  small = omega (arith, t.small, h.0);
  clear = λ e j l. elim (dec_le k j) [ yes q ↦ let g : j ≡ k = omega arith in rw g (h.1 (omega arith)) | no q ↦ t.clear (omega arith) j (omega arith) ];
}
