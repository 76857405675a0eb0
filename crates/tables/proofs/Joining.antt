-- The rows and the records of the form, one row after the other.
use mathlib.Core.Path.{◌≡◌, sym, ◌∙◌, ap}
use mathlib.Core.List.{List}
use Prim.Native.Nat.{ℕ, suc, ◌+◌, ◌-◌, ◌*◌, ◌≤◌, ◌<◌}
use native.Mathlib.Numerals.{add-one}
use native.Mathlib.Omega.{arith}
use lib.ListN.{length, take, get_or}
use lib.Seq.{get_or-take, length-take-le}
use Rattle.exact.proofs.Ranges.{length_list_of, get_or_list_of}
use Rattle.buffer.specs.Stored.{Puts}
use Rattle.buffer.specs.declared.Cursor.{Cursor}
use Rattle.buffer.proofs.Stores.{and_then, retold}
use Rattle.model.specs.Decode.{first_record, terms_from}
use Rattle.model.specs.Format.{bytes}
use Rattle.model.specs.Job.{Term}
use Rattle.model.specs.StandardForm.{factor_of, records_to, joined}
use Rattle.model.specs.declared.Header.{Header}
use Rattle.model.specs.declared.Part.TheVariants.{Rows}
use Rattle.forms.proofs.Rising.{rising_cong, rising_length, records_mono, records_most}
use Rattle.tables.specs.ChainsRead.{ChainsRead, terms_in, chain_terms, table_terms}
use Rattle.tables.proofs.Gathered.{listed}

-- ---- a row's terms
module _ (records : List ℕ) (left n : ℕ) (few : n ≤ 16) where
  -- by the factors of its n effects
  pub chain_terms_lem : (found : List ℕ) (first : ℕ) → found ≡ listed (terms_from records left first) → terms_in (take n found) (length (take n found)) ≡ chain_terms records left n first
  unfolding chain_terms
  chain_terms_lem found first e =
      let chain = terms_from records left first in
      let size : length (take n found) ≡ n = length-take-le n found (omega (arith, ap length e, length_list_of 16 (λ j. factor_of chain (suc j)))) in
      ap (terms_in (take n found)) size
      ∙ rising_cong (λ e. get_or (take n found) (e - 1) 0) (factor_of chain) 1 n λ d l m.
      let back : suc (d - 1) ≡ d = omega arith in
      get_or-take n found (d - 1) 0 (omega arith) ∙ ap (λ (s : List ℕ). get_or s (d - 1) 0) e ∙ get_or_list_of 16 (λ j. factor_of chain (suc j)) (d - 1) 0 (omega arith) ∙ ap (factor_of chain) back

  chain_few : (first : ℕ) → length (chain_terms records left n first) ≤ 16
  unfolding chain_terms
  chain_few first = omega (arith, rising_length (factor_of (terms_from records left first)) 1 n)

-- ---- the rows of a job
module _ {rows records : List ℕ} {head : Header} (read : ChainsRead rows records head) where
  -- row i + 1 is in its section
  pub row_inside : (i : ℕ) → i < head.rows → bytes Rows * suc i ≤ length rows
  row_inside i h = omega (arith, read.long)

  -- the records of row i + 1 and of those before it are few
  pub records_few : (i : ℕ) → i < head.rows → records_to i (table_terms rows records head) + length (table_terms rows records head (suc i)) ≤ 512
  records_few i h =
      let most = records_most (table_terms rows records head) 16 head.rows (λ j _. chain_few records head.records head.effects read.effects (first_record rows (suc j))) in
      let all = records_mono (table_terms rows records head) i head.rows h in
      omega (arith, read.few)

-- ---- one row more
pub records_on : (terms : ℕ → List Term) (i : ℕ) → records_to (i + 1) terms ≡ records_to i terms + length (terms (suc i))
records_on terms i = ap (λ (k : ℕ). records_to k terms) (add-one i)

pub joined_on : {w v u : Cursor} (item : ℕ → List ℕ) (i : ℕ) → Puts w (joined i item) v → Puts v (item i) u → Puts w (joined (i + 1) item) u
joined_on item i first next = retold (sym (ap (λ (k : ℕ). joined k item) (add-one i))) (and_then first next)
