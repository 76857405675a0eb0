-- An accepted job's row and record sections can be read, and the terms read there are its rows'.
use mathlib.Core.Path.{◌≡◌, ap}
use Rattle.std.specs.Prelude.{None}
use mathlib.Core.List.{List}
use Prim.Native.Nat.{ℕ, ◌≤◌}
use Rattle.model.specs.Format.{profile_of, header_of, section_of}
use Rattle.model.specs.Job.{highway, Term}
use Rattle.model.specs.Refusals.{job_verdict}
use Rattle.model.specs.StandardForm.{terms_of, records_to, record_count, row_bytes, record_bytes, joined, form_part}
use Rattle.model.specs.declared.Header.{Header}
use Rattle.model.specs.declared.Part.TheVariants.{Rows, Records}
use Rattle.model.proofs.Verdict.{clear}
use Rattle.model.proofs.HeaderLimits.{header_fits}
use Rattle.rows.specs.Tables.{TablesFit}
use Rattle.rows.proofs.Sections.{tables_fit}
use Rattle.forms.proofs.Listed.{terms_listed}
use Rattle.tables.specs.ChainsRead.{ChainsRead, chain_terms, table_terms}

fit_reads : {effects rows records : List ℕ} {head : Header} → TablesFit effects rows records head → head.effects ≤ 16 → ChainsRead rows records head
fit_reads fit few = record {
  read = λ c h k. let f = fit.records c h k in record { effect = f.effect; most = f.most; next = f.next };
  long = fit.long;
  few = fit.few;
  effects = few;
  chain = λ r h k. let f = fit.rows r h k in record { inside = f.first; distinct = f.distinct };
}

pub accepted_reads : (b : List ℕ) → job_verdict b ≡ None → ChainsRead (section_of b Rows) (section_of b Records) (header_of b)
accepted_reads b accepted = fit_reads (tables_fit b accepted) (header_fits b (clear b accepted).c2).effects.most

-- a job that lists its rows: their terms, the form's C, rows and records
module _ (b : List ℕ) (lists : profile_of (header_of b).edition ≡ highway) where
  abbrev head : Header
  head = header_of b

  abbrev terms : ℕ → List Term
  terms = table_terms (section_of b Rows) (section_of b Records) head

  terms_read : terms_of b ≡ terms
  unfolding chain_terms
  terms_read = terms_listed b lists

  pub count_read : record_count b ≡ records_to head.rows terms
  count_read = ap (records_to head.rows) terms_read

  pub rows_read : form_part b Rows ≡ joined head.rows (row_bytes (section_of b Rows) terms)
  unfolding form_part
  rows_read = ap (λ (ts : ℕ → List Term). joined head.rows (row_bytes (section_of b Rows) ts)) terms_read

  pub records_read : form_part b Records ≡ joined head.rows (record_bytes terms)
  unfolding form_part
  records_read = ap (λ (ts : ℕ → List Term). joined head.rows (record_bytes ts)) terms_read
