-- The terms of a row of the form: rising by effect, no factor 0, each effect's own factor.
use Rattle.std.specs.Prelude.{if◌then◌else◌}
use mathlib.Core.Path.{◌≡◌, refl, sym, ◌∙◌, ap, ap₂}
use mathlib.Core.Bool.{Bool, false, ◌||◌, true≢false}
use mathlib.Core.List.{List, [], ◌∷◌}
use Prim.Native.Nat.{ℕ, zero, suc, ◌+◌, ◌*◌, ◌≤◌, ◌<◌}
use native.Mathlib.Decide.{dec_le}
use native.Mathlib.Omega.{arith}
use lib.Dec.{eqb}
use lib.ListN.{length}
use borrow.Author.Tests.{eqb-true, eqb-false, eq-eqb, ne_eqb}
use Rattle.exact.proofs.Bridge.{by_test}
use Rattle.model.specs.Job.{Term}
use Rattle.model.specs.Rows.{names}
use Rattle.model.specs.StandardForm.{factor_of, rising, records_to}
use Rattle.omissions.specs.ChainTables.{Distinct}

-- each term
abbrev pub Each : (Term → Type 0) → List Term → Type 0
Each P [] = Unit {0}
Each P (t ∷ rest) = P t × Each P rest

-- a record's effect and factor are within their limits
pub record TermFits (n : ℕ) (t : Term) : Type 0 where
  pub least : 1 ≤ t.effect
  pub most : t.effect ≤ n
  pub factor : t.factor ≤ 3000

-- ---- factors
-- an effect that the chain does not name has factor 0
pub unnamed : (l : List Term) (e : ℕ) → names l e ≡ false → factor_of l e ≡ 0
unnamed [] e h = refl
unnamed (t ∷ rest) e h =
    by_test (eqb t.effect e) (λ b. (b || names rest e) ≡ false → (if b then t.factor else factor_of rest e) ≡ 0)
    (λ _ z. absurd (true≢false z)) (λ _ z. unnamed rest e z) h

pub factor_small : (n : ℕ) (l : List Term) → Each (TermFits n) l → (e : ℕ) → factor_of l e ≤ 3000
factor_small n [] h e = omega arith
factor_small n (t ∷ rest) h e = by_test (eqb t.effect e) (λ b. (if b then t.factor else factor_of rest e) ≤ 3000) (λ _. h.0.factor) (λ _. factor_small n rest h.1 e)

-- ---- the terms of a row of the form
below : (f : ℕ → ℕ) (e n d : ℕ) → d < e → names (rising f e n) d ≡ false
below f e zero d h = refl
below f e (suc n) d h =
    let less = below f (suc e) n d (omega arith) in
    by_test (eqb (f e) 0) (λ b. names (if b then rising f (suc e) n else (record { effect = e; factor = f e } ∷ rising f (suc e) n)) d ≡ false)
    (λ _. less) (λ _. ap (λ (b : Bool). b || names (rising f (suc e) n) d) (ne_eqb e d (λ z. omega arith)) ∙ less)

pub rising_distinct : (f : ℕ → ℕ) (e n : ℕ) → Distinct (rising f e n)
rising_distinct f e zero = tt
rising_distinct f e (suc n) =
    let less = rising_distinct f (suc e) n in
    by_test (eqb (f e) 0) (λ b. Distinct (if b then rising f (suc e) n else (record { effect = e; factor = f e } ∷ rising f (suc e) n)))
    (λ _. less) (λ _. (below f (suc e) n e (omega arith), less))

pub rising_each : (P : Term → Type 0) (f : ℕ → ℕ) (e n : ℕ) → ((d : ℕ) → e ≤ d → d < e + n → P (record { effect = d; factor = f d })) → Each P (rising f e n)
rising_each P f e zero h = tt
rising_each P f e (suc n) h =
    let less = rising_each P f (suc e) n (λ d l m. h d (omega arith) (omega arith)) in
    by_test (eqb (f e) 0) (λ b. Each P (if b then rising f (suc e) n else (record { effect = e; factor = f e } ∷ rising f (suc e) n)))
    (λ _. less) (λ _. (h e (omega arith) (omega arith), less))

-- none has factor 0
pub rising_nonzero : (f : ℕ → ℕ) (e n : ℕ) → Each (λ t. ¬ (t.factor ≡ 0)) (rising f e n)
rising_nonzero f e zero = tt
rising_nonzero f e (suc n) =
    let less = rising_nonzero f (suc e) n in
    by_test (eqb (f e) 0) (λ b. Each (λ t. ¬ (t.factor ≡ 0)) (if b then rising f (suc e) n else (record { effect = e; factor = f e } ∷ rising f (suc e) n)))
    (λ _. less) (λ z. (eqb-false (f e) 0 z, less))

pub rising_length : (f : ℕ → ℕ) (e n : ℕ) → length (rising f e n) ≤ n
rising_length f e zero = omega arith
rising_length f e (suc n) =
    let less = rising_length f (suc e) n in
    by_test (eqb (f e) 0) (λ b. length (if b then rising f (suc e) n else (record { effect = e; factor = f e } ∷ rising f (suc e) n)) ≤ suc n)
    (λ _. omega arith) (λ _. omega arith)

-- they give each effect its factor
pub rising_factor : (f : ℕ → ℕ) (e n d : ℕ) → e ≤ d → d < e + n → factor_of (rising f e n) d ≡ f d
rising_factor f e zero d l h = absurd (omega arith)
rising_factor f e (suc n) d l h = elim (dec_le d e) [
  | yes m ↦
      let k : d ≡ e = omega arith in
      by_test (eqb (f e) 0) (λ b. factor_of (if b then rising f (suc e) n else (record { effect = e; factor = f e } ∷ rising f (suc e) n)) d ≡ f d)
      (λ z. unnamed (rising f (suc e) n) d (below f (suc e) n d (omega arith)) ∙ sym (ap f k ∙ eqb-true (f e) 0 z))
      (λ _. ap (λ (b : Bool). if b then f e else factor_of (rising f (suc e) n) d) (eq-eqb e d (sym k)) ∙ ap f (sym k))
  | no m ↦
      let less = rising_factor f (suc e) n d (omega arith) (omega arith) in
      by_test (eqb (f e) 0) (λ b. factor_of (if b then rising f (suc e) n else (record { effect = e; factor = f e } ∷ rising f (suc e) n)) d ≡ f d)
      (λ _. less)
      (λ _. ap (λ (b : Bool). if b then f e else factor_of (rising f (suc e) n) d) (ne_eqb e d (λ z. omega arith)) ∙ less)
]

-- only the factors of effects e .. e + n - 1 count
pub rising_cong : (f g : ℕ → ℕ) (e n : ℕ) → ((d : ℕ) → e ≤ d → d < e + n → f d ≡ g d) → rising f e n ≡ rising g e n
rising_cong f g e zero h = refl
rising_cong f g e (suc n) h =
    ap₂ (λ (k : ℕ) (rest : List Term). if eqb k 0 then rest else (record { effect = e; factor = k } ∷ rest)) (h e (omega arith) (omega arith))
    (rising_cong f g (suc e) n (λ d l m. h d (omega arith) (omega arith)))

-- ---- the records of all rows
-- those of a row are among them
pub records_mono : (terms : ℕ → List Term) (i n : ℕ) → i < n → records_to i terms + length (terms (suc i)) ≤ records_to n terms
records_mono terms i zero h = absurd (omega arith)
records_mono terms i (suc n) h = elim (dec_le n i) [ yes m ↦ let e : i ≡ n = omega arith in rw e (omega arith) | no m ↦ let less = records_mono terms i n (omega arith) in omega arith ]

-- of n rows of at most m terms
pub records_most : (terms : ℕ → List Term) (m n : ℕ) → ((i : ℕ) → i < n → length (terms (suc i)) ≤ m) → records_to n terms ≤ n * m
records_most terms m zero h = omega arith
records_most terms m (suc n) h = omega (arith, records_most terms m n (λ i l. h i (omega arith)), h n (omega arith))

pub records_cong : (n : ℕ) (f g : ℕ → List Term) → ((i : ℕ) → i < n → f (suc i) ≡ g (suc i)) → records_to n f ≡ records_to n g
records_cong zero f g h = refl
records_cong (suc n) f g h = ap₂ (λ (k : ℕ) (ts : List Term). k + length ts) (records_cong n f g (λ i l. h i (omega arith))) (h n (omega arith))
