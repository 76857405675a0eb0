-- "One way to write a job" (02): a job's standard form, and when two jobs say the same. In the form records are numbered in row order, rising by effect within a row, zero factors dropped, no shared tails and no other records.
use Rattle.std.specs.Prelude.{ℕ, zero, suc, ◌+◌, ◌*◌, ◌≤◌, ◌<◌, if◌then◌else◌, Option}
use mathlib.Core.{Path.◌≡◌, List.List, List.[], List.◌∷◌, List.◌++◌}
use lib.{ListN.length, ListN.take, ListN.drop, Dec.leb, Dec.eqb}
use Rattle.exact.specs.Choice.{or_else}
use Rattle.words.specs.Words.{byte_at, word_at}
use Rattle.buffer.specs.Stored.{little_endian}
use Rattle.model.specs.Job.{Term, Job}
use Rattle.model.specs.Format.{header_of, size, bytes, words, section_of}
use Rattle.model.specs.Decode.{decode}
use Rattle.model.specs.Refusals.{unless, ◌finds◌, first_refusal, highway_verdict}
use Rattle.model.specs.declared.Refusal.{Refusal}
use Rattle.model.specs.declared.{Part.Part, Part.TheVariants.Head, Part.TheVariants.Line, Part.TheVariants.Transverse, Part.TheVariants.SecondTransverse, Part.TheVariants.Effects, Part.TheVariants.Rows, Part.TheVariants.Records}

-- ---- what a job says

-- the factor that a chain gives effect e, in thousandths; 0 if absent
abbrev pub factor_of : List Term → ℕ → ℕ
factor_of [] e = 0
factor_of (t ∷ rest) e = if eqb t.effect e then t.factor else factor_of rest e

-- row r's factor for effect e; a row that the job lists has one alternative, the 0th
abbrev pub row_factor : Job → (r e : ℕ) → ℕ
row_factor job r e = factor_of ((job.row r).chain 0) e

-- a byte string: numbers below 256
abbrev pub AreBytes : List ℕ → Type 0
AreBytes b = (i : ℕ) → byte_at b i < 256

-- a part's words are the same in two jobs
abbrev pub SameWords : (b c : List ℕ) → Part → Type 0
SameWords b c part = (p : ℕ) → p < words (header_of b) part → word_at (section_of b part) p ≡ word_at (section_of c part) p

-- two jobs agree
pub record Agree (b c : List ℕ) : Type 0 where
  -- in the header's words but C, which is word 9
  pub header : (q : ℕ) → q < words (header_of b) Head → ¬ (q ≡ 9) → word_at b q ≡ word_at c q
  -- in lines
  pub line : SameWords b c Line
  pub transverse : SameWords b c Transverse
  pub second : SameWords b c SecondTransverse
  -- in effects, their values and marks
  pub effects : SameWords b c Effects
  -- in each row's state, live kind and live factor, its words but the first record
  pub row : (i j : ℕ) → i < (header_of b).rows → j < 3 → word_at (section_of b Rows) (size Rows * i + j) ≡ word_at (section_of c Rows) (size Rows * i + j)
  -- in each row's factor for each effect
  pub factor : (r e : ℕ) → 1 ≤ r → r ≤ (header_of b).rows → 1 ≤ e → e ≤ (header_of b).effects → row_factor (decode b) r e ≡ row_factor (decode c) r e

-- ---- the standard form

-- the terms of n effects from e on, rising, zero factors dropped
abbrev pub rising : (factor : ℕ → ℕ) → (e n : ℕ) → List Term
rising factor e zero = []
rising factor e (suc n) =
    let rest = rising factor (suc e) n in
    if eqb (factor e) 0 then rest else (record { effect = e; factor = factor e } ∷ rest)

-- row r's terms
unfoldable pub terms_of : List ℕ → ℕ → List Term
terms_of b r = rising (row_factor (decode b) r) 1 (header_of b).effects

-- how many records stand before row i + 1's: those of rows 1 to i
abbrev pub records_to : ℕ → (terms : ℕ → List Term) → ℕ
records_to zero terms = 0
records_to (suc i) terms = records_to i terms + length (terms (suc i))

-- C of the form
abbrev pub record_count : List ℕ → ℕ
record_count b = records_to (header_of b).rows (terms_of b)

-- a count as a word's bytes
abbrev pub word_bytes : ℕ → List ℕ
word_bytes n = little_endian 4 n

-- where terms written from record c on start: 0 if there are none
abbrev pub start_at : (c : ℕ) → List Term → ℕ
start_at c [] = 0
start_at c (t ∷ rest) = c

-- terms as records, c being the first one's number: each leads to the next, the last to 0
abbrev pub chain_bytes : (c : ℕ) → List Term → List ℕ
chain_bytes c [] = []
chain_bytes c (t ∷ rest) = word_bytes t.effect ++ (word_bytes t.factor ++ (word_bytes (start_at (suc c) rest) ++ chain_bytes (suc c) rest))

-- row i + 1's state and live words, as they are
abbrev pub row_head : (rows : List ℕ) → ℕ → List ℕ
row_head rows i = take (4 * 3) (drop (bytes Rows * i) rows)

-- row i + 1, given all rows' terms
abbrev pub row_bytes : (rows : List ℕ) → (terms : ℕ → List Term) → ℕ → List ℕ
row_bytes rows terms i = row_head rows i ++ word_bytes (start_at (suc (records_to i terms)) (terms (suc i)))

-- row i + 1's records, given all rows' terms
abbrev pub record_bytes : (terms : ℕ → List Term) → ℕ → List ℕ
record_bytes terms i = chain_bytes (suc (records_to i terms)) (terms (suc i))

-- item 0, item 1, .., item (n - 1), one after the other
abbrev pub joined : ℕ → (item : ℕ → List ℕ) → List ℕ
joined zero item = []
joined (suc n) item = joined n item ++ item n

-- a part of the form: the header with C as its word 9, lines and effects as they are, rows, records
unfoldable pub form_part : List ℕ → Part → List ℕ
form_part b Head = let head = section_of b Head in take (4 * 9) head ++ (word_bytes (record_count b) ++ drop (4 * 10) head)
form_part b Line = section_of b Line
form_part b Transverse = section_of b Transverse
form_part b SecondTransverse = section_of b SecondTransverse
form_part b Effects = section_of b Effects
form_part b Rows = joined (header_of b).rows (row_bytes (section_of b Rows) (terms_of b))
form_part b Records = joined (header_of b).rows (record_bytes (terms_of b))

-- the standard form of a job that lists its rows
unfoldable pub form : List ℕ → List ℕ
form b =
    form_part b Head ++ (form_part b Line ++ (form_part b Transverse ++ (form_part b SecondTransverse ++ (form_part b Effects
    ++ (form_part b Rows ++ form_part b Records)))))

-- ---- the call

-- 12: an output buffer, of so many bytes, has fewer than the form; place is the form's bytes
unfoldable pub fault12 : List ℕ → (room : ℕ) → Option ℕ
fault12 b room = let n = length (form b) in unless (leb n room) n

-- the verdict on a job to be written into a buffer of so many bytes: the job's, else the host's
unfoldable pub write_verdict : List ℕ → (room : ℕ) → Option Refusal
write_verdict b room = or_else (highway_verdict b) (first_refusal ((12 finds fault12 b room) ∷ []))
