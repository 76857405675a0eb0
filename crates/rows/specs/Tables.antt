-- What is asked of the effect, row and record sections before they are combined. An item's words are in its section where the item's number times its bytes is at most the section's length.
use Rattle.std.specs.Prelude.{ℕ, ◌+◌, ◌-◌, ◌*◌, ◌≤◌, ◌≡◌, List, [], ◌∷◌, length}
use Rattle.std.specs.Coded.{×_prop, Unit-prop}
use Rattle.std.proofs.Props.{props}
use Rattle.words.specs.Words.{count_at}
use Rattle.model.specs.Job.{Term, rural}
use Rattle.model.specs.Format.{profile_of, effect_unit, size, bytes, effect_bytes}
use Rattle.model.specs.declared.Header.{Header}
use Rattle.model.specs.declared.Part.TheVariants.{Rows, Records}
use Rattle.model.specs.Decode.{first_record, terms_from}
use Rattle.omissions.specs.ChainTables.{Distinct, EffectsInReach, RecordsInTables}

-- row r's words are within their limits, its first record is a record or 0, and its chain, of at most `count` records, names no effect twice
pub record RowInTables (records : List ℕ) (count : ℕ) (s : List ℕ) (r : ℕ) : Type 0 where
  pub live : count_at s (size Rows * (r - 1) + 1) ≤ 2
  pub factor : count_at s (size Rows * (r - 1) + 2) ≤ 3000
  pub first : bytes Records * first_record s r ≤ length records
  pub distinct : Distinct (terms_from records count (first_record s r))

-- the three sections together, by the job's header: the rows that it gives, at most 32, with chains of at most as many records as it gives, and a rural bridge's eleven effects
pub record TablesFit (e w s : List ℕ) (head : Header) : Type 0 where
  pub effects : EffectsInReach (effect_unit head.edition) e
  pub records : RecordsInTables (effect_unit head.edition) e s
  pub long : bytes Rows * head.rows ≤ length w
  pub few : head.rows ≤ 32
  pub rows : (r : ℕ) → 1 ≤ r → r ≤ head.rows → RowInTables s head.records w r
  pub eleven : profile_of head.edition ≡ rural → effect_bytes (effect_unit head.edition) * 11 ≤ length e

-- this has one proof at most
distinct_prop : (l : List Term) → IsProp (Distinct l)
distinct_prop [] = Unit-prop
distinct_prop (t ∷ rest) = ×_prop (Prim.hlevel props) (distinct_prop rest)

pub tables_prop : (e w s : List ℕ) (head : Header) → IsProp (TablesFit e w s head)
tables_prop e w s head = Prim.hlevel (props, distinct_prop)
