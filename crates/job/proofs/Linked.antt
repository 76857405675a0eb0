-- The chains of a job whose words are within their limits.
use Rattle.std.specs.Prelude.{if◌then◌else◌, None, Some}
use mathlib.Core.Path.{◌≡◌, sym, ◌∙◌, ap, ap₂, subst}
use mathlib.Core.Bool.{Bool, false, not, ◌||◌}
use mathlib.Core.List.{List}
use Prim.Native.Nat.{ℕ, ◌+◌, ◌-◌, ◌*◌, ◌≤◌, ◌<◌}
use native.Mathlib.Omega.{arith}
use lib.Dec.{eqb}
use lib.ListN.{length}
use borrow.Author.Tests.{eq-eqb, ne_eqb, not-true}
use Rattle.exact.proofs.Bridge.{by_test}
use Rattle.words.specs.Words.{count_at}
use Rattle.words.specs.Fields.{moved, misfit}
use Rattle.model.specs.Format.{header_of, start, section_of, size, bytes}
use Rattle.model.specs.Chains.{next_record, walk, returns}
use Rattle.model.specs.Decode.{first_record}
use Rattle.model.specs.Refusals.{row_tests, row_fault, chain_names_twice, fault6, fault7, fault8}
use Rattle.words.proofs.Fits.{moved_none, first_fits}
use Rattle.model.proofs.TableLimits.{row_fits, record_fits, no_return}
use Rattle.model.proofs.HeaderLimits.{header_fits}
use Rattle.model.proofs.Chains.{Bounded, returns_long, chain_ends, names_none}
use Rattle.model.specs.declared.Header.{Header}
use Rattle.model.specs.declared.Part.TheVariants.{Rows, Records}
use Rattle.chains.specs.Linked.{Linked, EffectsTo}
use Rattle.job.specs.declared.defects.Defect.{Defect}
use Rattle.job.specs.declared.defects.Defect.TheVariants.{Repeat}
use Rattle.sections.specs.Sized.{Sized}
use Rattle.job.specs.Defects.{is_defective, chain_passes}
use Rattle.sections.proofs.Sizes.{part_length}
use Rattle.limits.proofs.Scans.{answer_same}

-- a chain ends within the count of records exactly if it does not come back
pub returns_test : (s : List ℕ) (n f : ℕ) → Bounded s n f → returns s n f ≡ not (eqb (walk s f n) 0)
returns_test s n f m =
    by_test (returns s n f) (λ t. t ≡ not (eqb (walk s f n) 0))
    (λ t. sym (ap not (ne_eqb (walk s f n) 0 ((returns_long s n f m).0 t))))
    (λ t. sym (ap not (eq-eqb (walk s f n) 0 (chain_ends s n f m t))))

-- row i's first record as the code reads it, i counting from 0
pub first_is : (b : List ℕ) (i : ℕ) {rows : List ℕ} {f : ℕ} → rows ≡ section_of b Rows → f ≡ count_at rows (size Rows * i + 3) → f ≡ first_record (section_of b Rows) (i + 1)
first_is b i e g =
    let k : size Rows * i + 3 ≡ size Rows * (i + 1 - 1) + 3 = omega arith in
    g ∙ ap (λ (rows : List ℕ). count_at rows (size Rows * i + 3)) e ∙ ap (count_at (section_of b Rows)) k

-- tests that pass the same rows find the same
rows_same : (b : List ℕ) {p q : ℕ → Bool} → ((i : ℕ) → i < (header_of b).rows → p i ≡ q i) → row_fault b p ≡ row_fault b q
unfolding misfit
rows_same b h = ap (moved (start (header_of b) Rows)) (answer_same 0 (header_of b).rows _ _ (λ i _ l. ap (λ (t : Bool). moved (size Rows * i) (if t then None else Some 0)) (h i (omega arith))))

-- where no chain comes back, a test for effects named twice alone finds what refusal 8 finds
pub repeats_alone : (b : List ℕ) → fault7 b ≡ None → fault8 b ≡ row_fault b (chain_passes Repeat b)
unfolding fault8
repeats_alone b c7 = rows_same b (λ i h. ap (λ (t : Bool). t || not (chain_names_twice b (i + 1))) (no_return b c7 i h))

-- what the code finds of a chain, of row i
pub passes : (b : List ℕ) (i : ℕ) {records : List ℕ} {f n : ℕ} → records ≡ section_of b Records → f ≡ first_record (section_of b Rows) (i + 1) → n ≡ (header_of b).records → (defect : Defect) {r : Bool} → r ≡ is_defective defect records n f → chain_passes defect b i ≡ not r
passes b i {f = f} {n = n} e g k defect t = ap not (sym (t ∙ ap (λ (s : List ℕ). is_defective defect s n f) e ∙ ap₂ (is_defective defect (section_of b Records)) k g))

module _ (b : List ℕ) {head : Header} (z : Sized b head) where
  records_long : length (section_of b Records) ≡ bytes Records * (header_of b).records
  records_long = let e = part_length z Records in omega arith

  module _ (clear : fault6 b ≡ None) where
    next_most : (c : ℕ) → 1 ≤ c → c ≤ (header_of b).records → next_record (section_of b Records) c ≤ (header_of b).records
    next_most c l h = (record_fits b clear (c - 1) (omega arith)).next.most

    -- every next is a record or 0
    linked : Linked (section_of b Records)
    linked c l h = omega (arith, records_long, next_most c l (omega (arith, records_long)))

    -- every effect is one of 16
    effects_few : EffectsTo 16 (section_of b Records)
    effects_few c l h =
        let e = (record_fits b clear (c - 1) (omega (arith, records_long))).effect.most in
        omega (arith, e, (header_fits b z.within).effects.most)

    -- row i's first record is a record or 0, i counting from 0
    first_most : (i : ℕ) → i < (header_of b).rows → first_record (section_of b Rows) (i + 1) ≤ (header_of b).records
    first_most i h =
        let e : size Rows * i + 3 ≡ size Rows * (i + 1 - 1) + 3 = omega arith in
        subst (λ (k : ℕ). count_at (section_of b Rows) k ≤ (header_of b).records) e (row_fits b clear i h).first.most

    -- where no chain names an effect twice, none comes back
    pub none_returns : row_fault b (chain_passes Repeat b) ≡ None → fault7 b ≡ None
    unfolding fault7
    none_returns e = rows_same b (λ i h. ap not (names_none _ _ _ (record { first = first_most i h; next = next_most }) (once i h) ∙ sym (once i h))) ∙ e
      where
        once : (i : ℕ) → i < (header_of b).rows → chain_names_twice b (i + 1) ≡ false
        once i h = not-true _ (first_fits (row_tests (header_of b).rows (chain_passes Repeat b)) (section_of b Rows) (moved_none _ _ e) i h (omega arith))

    -- what the code requires of row i's chain
    pub chain_there : (i : ℕ) → i < (header_of b).rows → {records : List ℕ} {f n : ℕ} → records ≡ section_of b Records → f ≡ first_record (section_of b Rows) (i + 1) → n ≡ (header_of b).records →
        Linked records × EffectsTo 16 records × (bytes Records * f ≤ length records) × (length records ≡ bytes Records * n)
    chain_there i h e g k =
        let long = ap length e ∙ records_long in
        (subst Linked (sym e) linked, subst (EffectsTo 16) (sym e) effects_few, omega (arith, long, g, first_most i h), omega (arith, long, k))
