-- What a section without a fault gives, and where a fault can be: once, for any layout.
use Rattle.std.specs.Prelude.{if◌then◌else◌, Option, None, Some}
use mathlib.Core.Path.{sym, ◌≡◌, refl, ◌∙◌}
use mathlib.Core.Bool.{true}
use Rattle.std.proofs.lemmas.Option.{none-some, same_Some}
use mathlib.Core.List.{List, [], ◌∷◌}
use Prim.Native.Nat.{ℕ, zero, suc, ◌+◌, ◌*◌, ◌≤◌, ◌<◌}
use native.Mathlib.Nat.{mul-le-mul, mul-suc, le_refl}
use native.Mathlib.Decide.{dec_le}
use native.Mathlib.Omega.{arith}
use lib.ListN.{length, get_or}
use Rattle.exact.specs.Choice.{or_else}
use Rattle.exact.proofs.Bridge.{by_test}
use Rattle.words.specs.Words.{word_at}
use Rattle.words.specs.Fields.{Item, Field, Layout, free, words_in, moved, misfit_from, item_from, item_misfit, first_answer, misfit}

-- item i of n items of k words is among them
pub item_inside : (k i n : ℕ) → i < n → k * i + k ≤ k * n
item_inside k i n h = let l : k * suc i ≤ k * n = mul-le-mul (le_refl k) h in rw (mul-suc k i) at l

-- ---- an item
item_fits : (fields : List Field) (j : ℕ) (item : Item) → misfit_from j fields item ≡ None → (q : ℕ) → q < length fields → get_or fields q free item (item.word (j + q)) ≡ true
item_fits [] j item e q h = absurd (omega arith)
item_fits (admits ∷ rest) j item e zero h =
    let f : j + 0 ≡ j = omega arith in
    rw f (by_test (admits item (item.word j)) (λ t. (if t then misfit_from (suc j) rest item else Some j) ≡ None → t ≡ true) (λ _ _. refl) (λ _ z. absurd (none-some j (sym z))) e)
item_fits (admits ∷ rest) j item e (suc q) h =
    let f : suc j + q ≡ j + suc q = omega arith in
    let z : misfit_from (suc j) rest item ≡ None = by_test (admits item (item.word j)) (λ t. (if t then misfit_from (suc j) rest item else Some j) ≡ None → misfit_from (suc j) rest item ≡ None) (λ _ z. z) (λ _ z. absurd (none-some j (sym z))) e in
    rw f at (item_fits rest (suc j) item z q (omega arith))

pub item_below : (fields : List Field) (j : ℕ) (item : Item) (r : ℕ) → misfit_from j fields item ≡ Some r → r < j + length fields
item_below [] j item r e = absurd (none-some r e)
item_below (admits ∷ rest) j item r e =
    by_test (admits item (item.word j)) (λ t. (if t then misfit_from (suc j) rest item else Some j) ≡ Some r → r < j + length (admits ∷ rest))
    (λ _ z. let h = item_below rest (suc j) item r z in omega arith)
    (λ _ z. let h = same_Some j r z in omega arith) e

-- ---- a section
pub or_none : (x y : Option ℕ) → or_else x y ≡ None → (x ≡ None) × (y ≡ None)
or_none None y e = (refl, e)
or_none (Some p) y e = absurd (none-some p (sym e))

-- where no answer is found, none is one
pub answer_each : (i n : ℕ) (f : ℕ → Option ℕ) → first_answer i n f ≡ None → (k : ℕ) → i ≤ k → k < i + n → f k ≡ None
answer_each i zero f e k l h = absurd (omega arith)
answer_each i (suc n) f e k l h =
    let o = or_none (f i) (first_answer (suc i) n f) e in
    elim (dec_le k i) [
      | yes m ↦ let q : k ≡ i = omega arith in rw q o.0
      | no m ↦ answer_each (suc i) n f o.1 k (omega arith) (omega arith)
    ]

-- what is found is one's
pub answer_one : (i n : ℕ) (f : ℕ → Option ℕ) (r : ℕ) → first_answer i n f ≡ Some r → (k : ℕ) × (k < i + n) × (f k ≡ Some r)
answer_one i zero f r e = absurd (none-some r e)
answer_one i (suc n) f r e = go (f i) refl e (answer_one (suc i) n f r)
  where
    go : (o : Option ℕ) → f i ≡ o → or_else o (first_answer (suc i) n f) ≡ Some r → (first_answer (suc i) n f ≡ Some r → (k : ℕ) × (k < suc i + n) × (f k ≡ Some r)) → (k : ℕ) × (k < i + suc n) × (f k ≡ Some r)
    go (Some p) g z later = (i, omega arith, g ∙ z)
    go None g z later = let a = later z in let l = a.1 in (a.0, omega arith, a.2)

pub moved_none : (start : ℕ) (o : Option ℕ) → moved start o ≡ None → o ≡ None
moved_none start None e = refl
moved_none start (Some p) e = absurd (none-some _ (sym e))

moved_below : (start n r : ℕ) (o : Option ℕ) → ((p : ℕ) → o ≡ Some p → p < n) → moved start o ≡ Some r → r < start + n
moved_below start n r None h e = absurd (none-some r e)
moved_below start n r (Some p) h e = let l = h p refl in let g = same_Some (start + p) r e in omega arith

-- every field of every item admits its word
pub fits : (l : Layout) (s : List ℕ) → misfit l s ≡ None → (i q : ℕ) → i < l.items → q < length l.fields →
    get_or l.fields q free (item_from s (length l.fields * i) i) (word_at s (length l.fields * i + q)) ≡ true
unfolding misfit
fits l s e i q h m = let g : 0 + q ≡ q = omega arith in rw g at (item_fits l.fields 0 (item_from s (length l.fields * i) i) (moved_none _ _ (answer_each 0 l.items (item_misfit l.fields s) e i (omega arith) (omega arith))) q m)

-- a place at fault is in the section
pub below : (l : Layout) (s : List ℕ) (r : ℕ) → misfit l s ≡ Some r → r < words_in l
unfolding misfit
below l s r e =
    let a = answer_one 0 l.items (item_misfit l.fields s) r e in
    let k = length l.fields in
    let m = moved_below (k * a.0) k r (misfit_from 0 l.fields (item_from s (k * a.0) a.0)) (λ p z. let h = item_below l.fields 0 (item_from s (k * a.0) a.0) p z in omega arith) a.2 in
    let n = item_inside k a.0 l.items (omega (arith, a.1)) in
    omega arith

-- and of its first field, whose place is the item's own
pub first_fits : (l : Layout) (s : List ℕ) → misfit l s ≡ None → (i : ℕ) → i < l.items → 0 < length l.fields →
    get_or l.fields 0 free (item_from s (length l.fields * i) i) (word_at s (length l.fields * i)) ≡ true
first_fits l s e i h m = let g : length l.fields * i + 0 ≡ length l.fields * i = omega arith in rw g at (fits l s e i 0 h m)
