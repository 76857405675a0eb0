-- A byte a piece is written, the first i so far; later bytes stay.
use mathlib.Core.Path.{◌≡◌, sym, ◌∙◌, ap}
use mathlib.Core.List.{List, ◌∷◌, ◌++◌}
use Prim.Native.Nat.{ℕ, suc, ◌+◌, ◌<◌}
use native.Mathlib.Numerals.{add-one}
use native.Mathlib.Omega.{arith}
use lib.ListN.{length, get_or, set, drop, drop_of_length-le}
use lib.Seq.{drop-cons, set_at}
use Rattle.std.proofs.lemmas.List.{append-nil}
use Rattle.exact.specs.Ranges.{list_of}
use Rattle.exact.proofs.Ranges.{length_list_of, list_of_last}

abbrev pub marked : (ℕ → ℕ) → ℕ → List ℕ → List ℕ
marked f i p = list_of i f ++ drop i p

-- one byte more, as the code counts
pub mark_step : (f : ℕ → ℕ) (i : ℕ) (p : List ℕ) (x : ℕ) → i < length p → x ≡ f i → set (marked f i p) i x ≡ marked f (i + 1) p
mark_step f i p x h e =
    ap (λ (r : List ℕ). set (list_of i f ++ r) i x) (drop-cons p i 0 h)
    ∙ set_at (list_of i f) (get_or p i 0) (drop (suc i) p) x i (length_list_of i f)
    ∙ ap (λ (y : ℕ). list_of i f ++ (y ∷ drop (suc i) p)) e
    ∙ sym (list_of_last i f (drop (suc i) p))
    ∙ ap (λ (k : ℕ). marked f k p) (sym (add-one i))

-- a byte for each place
pub mark_all : (f : ℕ → ℕ) (i : ℕ) (p : List ℕ) → i ≡ length p → marked f i p ≡ list_of i f
mark_all f i p e = ap (λ (r : List ℕ). list_of i f ++ r) (drop_of_length-le p (omega (arith, e))) ∙ append-nil (list_of i f)
