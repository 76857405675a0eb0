-- Two accepted jobs agree exactly when their standard forms are equal bytes, and the form of the form is the form.
use mathlib.Core.Path.{◌≡◌, refl, sym, ◌∙◌, ap, ap₂, subst}
use mathlib.Core.Logic.{◌↔◌}
use Rattle.std.specs.Prelude.{None}
use mathlib.Core.List.{List, ◌++◌}
use Prim.Native.Nat.{ℕ, suc, ◌≤◌, ◌<◌}
use native.Mathlib.Nat.{le_refl}
use native.Mathlib.Omega.{arith}
use Rattle.model.specs.Decode.{decode}
use Rattle.model.specs.Format.{header_of, section_of}
use Rattle.model.specs.Job.{Term}
use Rattle.model.specs.Refusals.{highway_verdict}
use Rattle.model.specs.StandardForm.{AreBytes, row_factor, rising, terms_of, records_to, record_count, word_bytes, start_at, chain_bytes, row_bytes, record_bytes, joined, form_part, form, Agree}
use Rattle.model.specs.declared.Part.{Part}
use Rattle.model.specs.declared.Part.TheVariants.{Head, Line, Transverse, SecondTransverse, Effects, Rows, Records}
use Rattle.model.proofs.Verdict.{highway_accepted}
use Rattle.forms.proofs.Rising.{rising_cong, records_cong}
use Rattle.forms.proofs.Reading.{joined_cong}
use Rattle.forms.proofs.Listed.{Listed, accepted_listed}
use Rattle.forms.proofs.Agreeing.{Same, same_count, same_agree, agree_same}
use Rattle.forms.proofs.Parts.{form_same}

-- ---- saying the same is symmetric and transitive
pub same_sym : {b c : List ℕ} → Same b c → Same c b
same_sym {b} {c} s =
    let rows = same_count b c s 8 (omega arith) in
    let effects = same_count b c s 7 (omega arith) in
    record {
      front = sym s.front;
      rest = sym s.rest;
      line = sym s.line;
      transverse = sym s.transverse;
      second = sym s.second;
      effects = sym s.effects;
      row = λ i h. sym (s.row i (omega arith));
      factor = λ i e h l m. sym (s.factor i e (omega arith) l (omega arith));
    }

same_trans : {b c d : List ℕ} → Same b c → Same c d → Same b d
same_trans {b} {c} {d} s t =
    let rows = same_count b c s 8 (omega arith) in
    let effects = same_count b c s 7 (omega arith) in
    record {
      front = s.front ∙ t.front;
      rest = s.rest ∙ t.rest;
      line = s.line ∙ t.line;
      transverse = s.transverse ∙ t.transverse;
      second = s.second ∙ t.second;
      effects = s.effects ∙ t.effects;
      row = λ i h. s.row i h ∙ t.row i (omega arith);
      factor = λ i e h l m. s.factor i e h l m ∙ t.factor i e (omega arith) l (omega arith);
    }

-- ---- jobs that say the same have one form
module _ (b c : List ℕ) (s : Same b c) where
  same_terms : (i : ℕ) → i < (header_of b).rows → terms_of b (suc i) ≡ terms_of c (suc i)
  unfolding terms_of
  same_terms i h =
      rising_cong (row_factor (decode b) (suc i)) (row_factor (decode c) (suc i)) 1 (header_of b).effects (λ d l m. s.factor i d h l (omega arith))
      ∙ ap (rising (row_factor (decode c) (suc i)) 1) (same_count b c s 7 (omega arith))

  same_before : (i : ℕ) → i ≤ (header_of b).rows → records_to i (terms_of b) ≡ records_to i (terms_of c)
  same_before i h = records_cong i (terms_of b) (terms_of c) (λ j l. same_terms j (omega arith))

  same_records : record_count b ≡ record_count c
  same_records = same_before (header_of b).rows (le_refl (header_of b).rows) ∙ ap (λ (n : ℕ). records_to n (terms_of c)) (same_count b c s 8 (omega arith))

  -- one item for each row
  same_rows : (f g : ℕ → List ℕ) → ((i : ℕ) → i < (header_of b).rows → f i ≡ g i) → joined (header_of b).rows f ≡ joined (header_of c).rows g
  same_rows f g h = joined_cong (header_of b).rows f g h ∙ ap (λ (n : ℕ). joined n g) (same_count b c s 8 (omega arith))

  same_part : (part : Part) → form_part b part ≡ form_part c part
  unfolding form_part
  same_part Head = ap₂ ◌++◌ s.front (ap₂ ◌++◌ (ap word_bytes same_records) s.rest)
  same_part Line = s.line
  same_part Transverse = s.transverse
  same_part SecondTransverse = s.second
  same_part Effects = s.effects
  same_part Rows =
      same_rows (row_bytes (section_of b Rows) (terms_of b)) (row_bytes (section_of c Rows) (terms_of c))
      (λ i h. ap₂ ◌++◌ (s.row i h) (ap₂ (λ (k : ℕ) (ts : List Term). word_bytes (start_at (suc k) ts)) (same_before i (omega arith)) (same_terms i h)))
  same_part Records =
      same_rows (record_bytes (terms_of b)) (record_bytes (terms_of c))
      (λ i h. ap₂ (λ (k : ℕ) (ts : List Term). chain_bytes (suc k) ts) (same_before i (omega arith)) (same_terms i h))

  same_form : form b ≡ form c
  unfolding form
  same_form = rw (same_part Head, same_part Line, same_part Transverse, same_part SecondTransverse, same_part Effects, same_part Rows, same_part Records) refl

-- ---- for accepted jobs
pub listed : (b : List ℕ) → highway_verdict b ≡ None → Listed b
listed b ok = let a = highway_accepted b ok in accepted_listed b a.1 a.0

module _ (b : List ℕ) (accepted : highway_verdict b ≡ None) where
  pub says : Same b (form b)
  says = form_same b (listed b accepted)

  -- a job agrees with its form
  pub form_agrees : Agree b (form b)
  form_agrees = same_agree says

  -- writing the standard form again gives it back
  pub form_again : form (form b) ≡ form b
  form_again = sym (same_form b (form b) says)

-- two jobs agree exactly when their standard forms are equal bytes
pub form_exact : (b c : List ℕ) → AreBytes b → AreBytes c → highway_verdict b ≡ None → highway_verdict c ≡ None → Agree b c ↔ (form b ≡ form c)
form_exact b c bb bc ok ok' = (
  λ a. same_form b c (agree_same b c (listed b ok) (listed c ok') bb bc a),
  λ e. same_agree (same_trans (says b ok) (subst (λ (f : List ℕ). Same f c) (sym e) (same_sym (says c ok')))),
)
