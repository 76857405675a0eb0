-- What is asked of the row and record sections before the standard form's are written, and the terms that they give a row. An item's words are in its section where the item's number times its bytes is at most the section's length.
use Rattle.std.specs.Prelude.{ℕ, ◌-◌, ◌*◌, ◌≤◌, List, length, get_or}
use Rattle.model.specs.Chains.{record_effect, next_record}
use Rattle.model.specs.Decode.{first_record, terms_from}
use Rattle.model.specs.Format.{bytes}
use Rattle.model.specs.Job.{Term}
use Rattle.model.specs.StandardForm.{factor_of, rising}
use Rattle.model.specs.declared.Header.{Header}
use Rattle.model.specs.declared.Part.TheVariants.{Rows, Records}
use Rattle.omissions.specs.ChainTables.{Distinct}

-- record c names one of effects 1 .. 16, and its next is a record or 0
pub record RecordReads (s : List ℕ) (c : ℕ) : Type 0 where
  pub effect : 1 ≤ record_effect s c
  pub most : record_effect s c ≤ 16
  pub next : bytes Records * next_record s c ≤ length s

-- every record is such
abbrev pub RecordsRead : List ℕ → Type 0
RecordsRead s = (c : ℕ) → 1 ≤ c → bytes Records * c ≤ length s → RecordReads s c

-- the chain from a first record, of at most `left` records: its first is a record or 0, and it names no effect twice
pub record ChainReads (s : List ℕ) (left first : ℕ) : Type 0 where
  pub inside : bytes Records * first ≤ length s
  pub distinct : Distinct (terms_from s left first)

-- the two sections together, by the job's header: at most 32 rows, each with such a chain, and at most 16 effects
pub record ChainsRead (rows records : List ℕ) (head : Header) : Type 0 where
  pub read : RecordsRead records
  pub long : bytes Rows * head.rows ≤ length rows
  pub few : head.rows ≤ 32
  pub effects : head.effects ≤ 16
  pub chain : (r : ℕ) → 1 ≤ r → r ≤ head.rows → ChainReads records head.records (first_record rows r)

-- the terms of n effects by their factors, effect 1's first
abbrev pub terms_in : (factors : List ℕ) → ℕ → List Term
terms_in factors n = rising (λ e. get_or factors (e - 1) 0) 1 n

-- the terms of n effects by the chain from a first record, of at most `left` records
unfoldable pub chain_terms : (records : List ℕ) → (left n first : ℕ) → List Term
chain_terms records left n first = rising (factor_of (terms_from records left first)) 1 n

-- row r's terms, by the job's header
abbrev pub table_terms : (rows records : List ℕ) → Header → ℕ → List Term
table_terms rows records head r = chain_terms records head.records head.effects (first_record rows r)
