-- The lines of the table of factors: rows 1 to 20, then the second alternative of the row with k.
use Rattle.std.specs.Prelude.{ℕ, suc, ltb, if◌then◌else◌}
use Rattle.model.specs.RuralBridges.{thousandths, group, group_rows, row_with_k}

-- a line's row
abbrev pub line_row : ℕ → ℕ
line_row line = if ltb line group_rows then suc line else row_with_k

-- a line's alternative of its row
abbrev pub line_alternative : ℕ → ℕ
line_alternative line = if ltb line group_rows then 0 else 1

-- a line's factor of a load by its number in the job
unfoldable pub line_factor : (line number : ℕ) → ℕ
line_factor line number = thousandths (group (line_row line) (line_alternative line)) number
