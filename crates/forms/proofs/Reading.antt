-- Words out of joined bytes, and the word that four bytes of a count spell.
use Rattle.std.specs.Prelude.{if◌then◌else◌}
use mathlib.Core.Path.{◌≡◌, refl, sym, ◌∙◌, ap}
use mathlib.Core.List.{List, [], ◌∷◌, ◌++◌, append_assoc, append-nil}
use Prim.Native.Nat.{ℕ, zero, suc, ◌+◌, ◌*◌, ◌/◌, ◌%◌, ◌^◌, ◌≤◌, ◌<◌}
use native.Mathlib.Decide.{dec_le}
use native.Mathlib.Nat.{mul-suc}
use native.Mathlib.Omega.{arith}
use mathlib.Core.Bool.{Bool}
use lib.IntN.{pos, ◌-ℤ◌}
use lib.ListN.{length, take, drop, length-append, get_or-append, length-take, length-drop}
use lib.Seq.{get_or-append-add, get_or-take, get_or-drop}
use borrow.Author.Tests.{lt-ltb}
use Rattle.words.specs.Words.{byte_at, signed32, word_at}
use Rattle.model.specs.Job.{Term}
use Rattle.model.specs.Format.{bytes}
use Rattle.model.specs.StandardForm.{records_to, word_bytes, chain_bytes, row_bytes, record_bytes, joined}
use Rattle.model.specs.declared.Part.TheVariants.{Rows}

-- ---- a word
-- words whose four bytes are the same
pub same_word : (s t : List ℕ) (p q : ℕ) → ((i : ℕ) → i < 4 → byte_at s (4 * p + i) ≡ byte_at t (4 * q + i)) → word_at s p ≡ word_at t q
unfolding word_at
same_word s t p q h =
    let zp : 4 * p + 0 ≡ 4 * p = omega arith in
    let zq : 4 * q + 0 ≡ 4 * q = omega arith in
    let h0 : byte_at s (4 * p) ≡ byte_at t (4 * q) = ap (byte_at s) (sym zp) ∙ h 0 (omega arith) ∙ ap (byte_at t) zq in
    rw (h0, h 1 (omega arith), h 2 (omega arith), h 3 (omega arith)) refl

-- past a front of k words
pub word_past : (p q : List ℕ) (k j : ℕ) → length p ≡ 4 * k → word_at (p ++ q) (k + j) ≡ word_at q j
word_past p q k j e = same_word (p ++ q) q (k + j) j λ i h.
    let at : 4 * (k + j) + i ≡ length p + (4 * j + i) = omega arith in
    ap (byte_at (p ++ q)) at ∙ get_or-append-add p q (4 * j + i) 0

-- in the front
pub word_front : (p q : List ℕ) (k : ℕ) → 4 * k + 4 ≤ length p → word_at (p ++ q) k ≡ word_at p k
word_front p q k l = same_word (p ++ q) p k k λ i h. get_or-append p q 0 (4 * k + i) (omega arith)

-- in a part
pub word_take : (n k : ℕ) (s : List ℕ) → 4 * k + 4 ≤ n → word_at (take n s) k ≡ word_at s k
word_take n k s l = same_word (take n s) s k k λ i h. get_or-take n s (4 * k + i) 0 (omega arith)

pub word_drop : (m k : ℕ) (s : List ℕ) → word_at (drop (4 * m) s) k ≡ word_at s (m + k)
word_drop m k s = same_word (drop (4 * m) s) s k (m + k) λ i h.
    let at : 4 * m + (4 * k + i) ≡ 4 * (m + k) + i = omega arith in
    get_or-drop (4 * m) s (4 * k + i) 0 ∙ ap (byte_at s) at

-- ---- a count
pub bytes_four : (n : ℕ) → length (word_bytes n) ≡ 4
bytes_four n = refl

four_digits : (n a b c : ℕ) → n ≡ n % 256 + 256 * a → a ≡ a % 256 + 256 * b → b ≡ b % 256 + 256 * c → c < 256 → n % 256 + 256 * (a % 256) + 65536 * (b % 256) + 16777216 * (c % 256) ≡ n
four_digits n a b c e f g h = omega arith

pub word_read : (n : ℕ) (rest : List ℕ) → n < 65536 → word_at (word_bytes n ++ rest) 0 ≡ pos n
unfolding word_at signed32
word_read n rest h =
    let same : n % 256 + 256 * (n / 256 % 256) + 65536 * (n / 256 / 256 % 256) + 16777216 * (n / 256 / 256 / 256 % 256) ≡ n = four_digits n (n / 256) (n / 256 / 256) (n / 256 / 256 / 256) (omega arith) (omega arith) (omega arith) (omega arith) in
    ap signed32 same ∙ ap (λ (b : Bool). if b then pos n else (pos n -ℤ pos (2 ^ 32))) (lt-ltb n (2 ^ 31) (omega arith))

-- ---- joined parts
-- part i with what stands before and after it
pub record Standing (s p x : List ℕ) : Type 0 where
  pub rest : List ℕ
  pub is : s ≡ p ++ (x ++ rest)

pub joined_at : (n : ℕ) (part : ℕ → List ℕ) (i : ℕ) → i < n → Standing (joined n part) (joined i part) (part i)
joined_at zero part i h = absurd (omega arith)
joined_at (suc n) part i h = elim (dec_le n i) [
  | yes m ↦ let e : i ≡ n = omega arith in rw e (record { rest = []; is = ap (λ (x : List ℕ). joined n part ++ x) (sym (append-nil (part n))) })
  | no m ↦
      let less = joined_at n part i (omega arith) in
      record { rest = less.rest ++ part n; is = ap (λ (x : List ℕ). x ++ part n) less.is ∙ simp append_assoc }
]

pub joined_cong : (n : ℕ) (f g : ℕ → List ℕ) → ((i : ℕ) → i < n → f i ≡ g i) → joined n f ≡ joined n g
joined_cong zero f g h = refl
joined_cong (suc n) f g h = rw (joined_cong n f g (λ i l. h i (omega arith)), h n (omega arith)) refl

pub joined_length : (n k : ℕ) (part : ℕ → List ℕ) → ((i : ℕ) → i < n → length (part i) ≡ k) → length (joined n part) ≡ k * n
joined_length zero k part h = omega arith
joined_length (suc n) k part h =
    let less = joined_length n k part (λ i l. h i (omega arith)) in
    let last = h n (omega arith) in
    simp length-append (omega (arith, mul-suc k n))

-- the bytes of terms as records
pub chain_length_lem : (c : ℕ) (ts : List Term) → length (chain_bytes c ts) ≡ 12 * length ts
chain_length_lem c [] = omega arith
chain_length_lem c (t ∷ rest) = let less = chain_length_lem (suc c) rest in simp (length-append, bytes_four) (omega arith)

-- the bytes of rows and of records
pub rows_length : (rows : List ℕ) (terms : ℕ → List Term) (i : ℕ) → bytes Rows * i ≤ length rows → length (joined i (row_bytes rows terms)) ≡ 16 * i
rows_length rows terms i h = joined_length i 16 (row_bytes rows terms) (λ j l. simp (length-append, bytes_four, length-take, length-drop) (omega arith))

pub records_length : (terms : ℕ → List Term) (i : ℕ) → length (joined i (record_bytes terms)) ≡ 12 * records_to i terms
records_length terms zero = omega arith
records_length terms (suc i) =
    let less = records_length terms i in
    let own = chain_length_lem (suc (records_to i terms)) (terms (suc i)) in
    simp length-append (omega arith)
