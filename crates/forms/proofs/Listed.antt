-- An accepted job that lists its rows: its chains name no effect twice, and each of their terms is within its limits.
use mathlib.Core.Path.{◌≡◌, ap}
use Rattle.std.specs.Prelude.{None}
use mathlib.Core.List.{List}
use Prim.Native.Nat.{ℕ, zero, suc, ◌-◌, ◌*◌, ◌≤◌, ◌<◌}
use native.Mathlib.Omega.{arith}
use lib.ListN.{length}
use Rattle.model.specs.Chains.{record_effect, record_factor, next_record, chain_from}
use Rattle.model.specs.Decode.{first_record, terms_from, row_of, decode}
use Rattle.model.specs.Format.{profile_of, header_of, words_due, section_of}
use Rattle.model.specs.Job.{Term, Profile, highway}
use Rattle.model.specs.Refusals.{job_verdict}
use Rattle.model.specs.StandardForm.{factor_of, rising, terms_of}
use Rattle.model.specs.declared.Part.TheVariants.{Rows, Records}
use Rattle.model.proofs.Verdict.{clear, size_fits}
use Rattle.model.proofs.HeaderLimits.{header_fits}
use Rattle.model.proofs.TableLimits.{row_fits, record_fits}
use Rattle.omissions.specs.ChainTables.{Distinct}
use Rattle.rows.proofs.Sections.{tables_fit}
use Rattle.forms.proofs.Rising.{Each, TermFits}

-- row i + 1's chain, as its sections spell it
abbrev pub chain_of : List ℕ → ℕ → List Term
chain_of b i = terms_from (section_of b Records) (header_of b).records (first_record (section_of b Rows) (suc i))

-- what the form's theorems ask of a job
pub record Listed (b : List ℕ) : Type 0 where
  pub listed : profile_of (header_of b).edition ≡ highway
  pub size : length b ≡ 4 * words_due (header_of b)
  pub effects : (header_of b).effects ≤ 16
  pub rows : (header_of b).rows ≤ 32
  pub terms : (i : ℕ) → i < (header_of b).rows → Each (TermFits (header_of b).effects) (chain_of b i)
  pub distinct : (i : ℕ) → i < (header_of b).rows → Distinct (chain_of b i)

-- where rows are listed, a row's one chain is the one that its sections spell
pub row_chain : (b : List ℕ) → profile_of (header_of b).edition ≡ highway → (i : ℕ) → ((decode b).row (suc i)).chain 0 ≡ chain_of b i
unfolding decode
row_chain b h i = ap (λ (p : Profile). (row_of p (section_of b Rows) (section_of b Records) (header_of b).records (suc i)).chain 0) h

-- and its terms are by that chain
pub terms_listed : (b : List ℕ) → profile_of (header_of b).edition ≡ highway → terms_of b ≡ (λ r. rising (factor_of (terms_from (section_of b Records) (header_of b).records (first_record (section_of b Rows) r))) 1 (header_of b).effects)
unfolding terms_of decode
terms_listed b h =
    let by : Profile → ℕ → List Term = λ p r. rising (factor_of ((row_of p (section_of b Rows) (section_of b Records) (header_of b).records r).chain 0)) 1 (header_of b).effects in
    ap by h

pub row_terms : (b : List ℕ) → profile_of (header_of b).edition ≡ highway → (i : ℕ) → terms_of b (suc i) ≡ rising (factor_of (chain_of b i)) 1 (header_of b).effects
row_terms b h i = ap (λ (terms : ℕ → List Term). terms (suc i)) (terms_listed b h)

-- each record of n is within its limits: so is each term
terms_fit : (s : List ℕ) (e n : ℕ) → ((c : ℕ) → 1 ≤ c → c ≤ n → TermFits e (record { effect = record_effect s c; factor = record_factor s c })) →
    ((c : ℕ) → 1 ≤ c → c ≤ n → next_record s c ≤ n) → (most c : ℕ) → c ≤ n → Each (TermFits e) (terms_from s most c)
unfolding chain_from
terms_fit s e n fits next zero c h = tt
terms_fit s e n fits next (suc most) zero h = tt
terms_fit s e n fits next (suc most) (suc c) h =
    (fits (suc c) (omega arith) h, terms_fit s e n fits next most (next_record s (suc c)) (next (suc c) (omega arith) h))

pub accepted_listed : (b : List ℕ) → job_verdict b ≡ None → profile_of (header_of b).edition ≡ highway → Listed b
accepted_listed b accepted h =
    let c = clear b accepted in
    let head = header_fits b c.c2 in
    record {
      listed = h;
      size = size_fits b c.c1 c.c3;
      effects = head.effects.most;
      rows = head.rows.most;
      terms = λ i l.
          let k : suc i - 1 ≡ i = omega arith in
          terms_fit (section_of b Records) (header_of b).effects (header_of b).records
          (λ c' m n. let f = record_fits b c.c6 (c' - 1) (omega arith) in record { least = f.effect.least; most = f.effect.most; factor = f.factor.most })
          (λ c' m n. (record_fits b c.c6 (c' - 1) (omega arith)).next.most)
          (header_of b).records _ (rw k (row_fits b c.c6 i l).first.most);
      distinct = λ i l. ((tables_fit b accepted).rows (suc i) (omega arith) (omega arith)).distinct;
    }
