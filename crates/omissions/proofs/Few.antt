-- A chain that names no effect twice has at most as many records as there are effects; so many shares bound its value.
use Rattle.std.specs.Prelude.{if◌then◌else◌}
use mathlib.Core.Path.{◌≡◌, sym, ◌∙◌, ap, ap₂}
use mathlib.Core.Logic.{◌⊎◌, inl, inr}
use mathlib.Core.Bool.{Bool, true, false, ◌||◌}
use mathlib.Core.List.{List, [], ◌∷◌}
use Prim.Native.Nat.{ℕ, zero, suc, ◌+◌, ◌≤◌, ◌<◌, zero-le}
use native.Mathlib.Nat.{eq-or-lt_of_le, le_of_suc-le-suc}
use native.Mathlib.Omega.{arith}
use lib.Dec.{eqb}
use lib.ListN.{length}
use borrow.Author.Tests.{eq-eqb, ne_eqb}
use Rattle.exact.specs.Ranges.{count_to}
use Rattle.exact.proofs.Ranges.{count_cong}
use Rattle.model.specs.Job.{Term}
use Rattle.model.specs.Rows.{names}
use Rattle.omissions.specs.ChainTables.{Distinct, NamesTo}

-- one more passes
count_more : (n i : ℕ) (test : ℕ → Bool) → i < n → test i ≡ false → count_to n (λ j. eqb (suc i) (suc j) || test j) ≡ count_to n test + 1
count_more zero i test h e = absurd (omega arith)
count_more (suc n) i test h e = pick (eq-or-lt_of_le (le_of_suc-le-suc h)) (λ l. count_more n i test l e)
  where
    swap : (a b : ℕ) → a + 1 + b ≡ a + b + 1
    swap a b = omega arith

    none : (a : ℕ) → a + 1 ≡ a + 0 + 1
    none a = omega arith

    pick : (i ≡ n) ⊎ (i < n) → (i < n → count_to n (λ j. eqb (suc i) (suc j) || test j) ≡ count_to n test + 1) → count_to (suc n) (λ j. eqb (suc i) (suc j) || test j) ≡ count_to (suc n) test + 1
    pick (inl p) less =
        ap₂ (λ (k : ℕ) (b : Bool). k + (if b then 1 else 0)) (count_cong n (λ j. eqb (suc i) (suc j) || test j) test (λ j l. ap (λ (b : Bool). b || test j) (ne_eqb (suc i) (suc j) (λ d. omega arith)))) (ap (λ (b : Bool). b || test n) (eq-eqb (suc i) (suc n) (ap suc p)))
        ∙ none (count_to n test)
        ∙ ap (λ (b : Bool). count_to n test + (if b then 1 else 0) + 1) (sym (ap test (sym p) ∙ e))
    pick (inr l) less =
        ap₂ (λ (k : ℕ) (b : Bool). k + (if b then 1 else 0)) (less l) (ap (λ (b : Bool). b || test n) (ne_eqb (suc i) (suc n) (λ d. omega arith)))
        ∙ swap (count_to n test) (if test n then 1 else 0)

count_most : (n : ℕ) (test : ℕ → Bool) → count_to n test ≤ n
count_most zero test = omega arith
count_most (suc n) test = go (test n) (count_most n test)
  where
    go : (b : Bool) → count_to n test ≤ n → count_to n test + (if b then 1 else 0) ≤ suc n
    go true h = omega arith
    go false h = omega arith

-- the terms are no more than the effects that they name
counted : (n : ℕ) (l : List Term) → Distinct l → NamesTo n l → length l ≤ count_to n (λ j. names l (suc j))
counted n [] d m = zero-le
counted n (t ∷ l) d m = one t.effect m.0 m.1 d.0 (counted n l d.1 m.2)
  where
    one : (e : ℕ) → 1 ≤ e → e ≤ n → names l e ≡ false → length l ≤ count_to n (λ j. names l (suc j)) → suc (length l) ≤ count_to n (λ j. eqb e (suc j) || names l (suc j))
    one zero f h new less = absurd (omega arith)
    one (suc e) f h new less = omega (arith, count_more n e (λ j. names l (suc j)) (omega arith) new)

pub few : (n : ℕ) (l : List Term) → Distinct l → NamesTo n l → length l ≤ n
few n l d m = omega (arith, counted n l d m, count_most n (λ j. names l (suc j)))
