-- A section has no fault exactly when every field of every item admits its word: once, for any layout.
use Rattle.std.specs.Prelude.{if◌then◌else◌, Option, None, Some}
use mathlib.Core.Path.{sym, ◌≡◌, refl, ◌∙◌, ap}
use mathlib.Core.Bool.{Bool, true}
use Rattle.std.proofs.lemmas.Option.{none-some}
use mathlib.Core.List.{List, [], ◌∷◌}
use Prim.Native.Nat.{ℕ, zero, suc, ◌+◌, ◌*◌, ◌≤◌, ◌<◌}
use native.Mathlib.Omega.{arith}
use lib.ListN.{length}
use Rattle.exact.specs.Choice.{or_else}
use Rattle.exact.proofs.Bridge.{by_test}
use Rattle.words.specs.Fields.{Item, Field, Layout, moved, misfit_from, item_from, item_misfit, first_answer, misfit}
use Rattle.words.proofs.Fits.{moved_none, answer_each}

-- the fields from the j-th on admit their words
abbrev pub AllFit : ℕ → List Field → Item → Type 0
AllFit j [] item = Unit {0}
AllFit j (admits ∷ rest) item = (admits item (item.word j) ≡ true) × AllFit (suc j) rest item

fit_of : (fields : List Field) (j : ℕ) (item : Item) → misfit_from j fields item ≡ None → AllFit j fields item
fit_of [] j item e = tt
fit_of (admits ∷ rest) j item e =
    by_test (admits item (item.word j)) (λ t. (if t then misfit_from (suc j) rest item else Some j) ≡ None → (t ≡ true) × AllFit (suc j) rest item)
    (λ _ z. (refl, fit_of rest (suc j) item z)) (λ _ z. absurd (none-some j (sym z))) e

fit_none : (fields : List Field) (j : ℕ) (item : Item) → AllFit j fields item → misfit_from j fields item ≡ None
fit_none [] j item a = refl
fit_none (admits ∷ rest) j item a = ap (λ (t : Bool). if t then misfit_from (suc j) rest item else Some j) a.0 ∙ fit_none rest (suc j) item a.1

no_answer : (i n : ℕ) (f : ℕ → Option ℕ) → ((k : ℕ) → i ≤ k → k < i + n → f k ≡ None) → first_answer i n f ≡ None
no_answer i zero f h = refl
no_answer i (suc n) f h = ap (λ (o : Option ℕ). or_else o (first_answer (suc i) n f)) (h i (omega arith) (omega arith)) ∙ no_answer (suc i) n f (λ k l m. h k (omega arith) (omega arith))

-- every item of the section fits
abbrev pub ItemsFit : Layout → List ℕ → Type 0
ItemsFit l s = (i : ℕ) → i < l.items → AllFit 0 l.fields (item_from s (length l.fields * i) i)

pub items_fit : (l : Layout) (s : List ℕ) → misfit l s ≡ None → ItemsFit l s
unfolding misfit
items_fit l s e i h = fit_of l.fields 0 _ (moved_none _ _ (answer_each 0 l.items (item_misfit l.fields s) e i (omega arith) (omega arith)))

pub no_misfit : (l : Layout) (s : List ℕ) → ItemsFit l s → misfit l s ≡ None
unfolding misfit
no_misfit l s h = no_answer 0 l.items (item_misfit l.fields s) (λ i z m. ap (moved (length l.fields * i)) (fit_none l.fields 0 (item_from s (length l.fields * i) i) (h i (omega arith))))
