-- The effects and rows of the tables in hand.
use Rattle.std.specs.Prelude.{ℕ}
use Rattle.model.specs.Job.{Effect, Row, Profile}
use Rattle.model.specs.Format.{profile_of, effect_unit}
use Rattle.model.specs.Decode.{effect_at, row_at, row_count, row_of}
use Rattle.rows.specs.declared.tables.Tables.{Tables}

-- their loads
abbrev pub profile_in : Tables → Profile
profile_in t = profile_of t.head.edition

-- their effects
abbrev pub effect_in : Tables → ℕ → Effect
effect_in t = effect_at (effect_unit t.head.edition) t.effects.now

-- the rows of the row section
abbrev pub listed_in : Tables → ℕ → Row
listed_in t = row_at t.rows.now t.records.now t.head.records

-- the job's rows, listed or built in
abbrev pub row_in : Tables → ℕ → Row
row_in t = row_of (profile_in t) t.rows.now t.records.now t.head.records

-- how many
abbrev pub rows_in : Tables → ℕ
rows_in t = row_count (profile_in t) t.head.rows
