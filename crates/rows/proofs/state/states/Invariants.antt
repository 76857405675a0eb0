use mathlib.Core.Path.{◌≡◌}
use Rattle.model.specs.RecordsWalked.{walked_to}
use Rattle.rows.specs.InTables.{profile_in, effect_in, row_in, rows_in}
use Rattle.rows.specs.Governed.{traffic_of}
use Rattle.rows.proofs.Choosing.{Found}
use Rattle.rows.proofs.state.states.Given as goal

abbrev pub invariant-loop-i : goal.invariant-loop-i
invariant-loop-i l = let t = l.tables in Found (effect_in t) (row_in t) (traffic_of l.live) l.i l.states × (l.walked ≡ walked_to (profile_in t) (row_in t) l.i) × (l.i-end ≡ rows_in t)
