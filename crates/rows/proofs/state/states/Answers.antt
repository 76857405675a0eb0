use mathlib.Core.Path.{◌≡◌, sym, ◌∙◌, ap₂}
use Prim.Native.Nat.{ℕ, ◌+◌, ◌≤◌}
use native.Mathlib.Omega.{arith}
use Rattle.model.specs.Job.{Profile, Row}
use Rattle.model.specs.RecordsWalked.{chain_length, walked_to}
use Rattle.model.proofs.RecordsWalked.{walked_start, walked_next}
use Rattle.rows.specs.InTables.{profile_in, effect_in, row_in, rows_in}
use Rattle.rows.specs.Governed.{traffic_of}
use Rattle.rows.proofs.Choosing.{by_limit, found_none, found_next}
use Rattle.rows.proofs.RecordsWalked.{walked_near}
use Rattle.rows.proofs.state.states.Goals as goal

-- with a row's records, the records walked of one row more
more : (p : Profile) (row : ℕ → Row) (i : ℕ) {m n : ℕ} → m ≡ walked_to p row i → n ≡ chain_length p (row (i + 1)) → m + n ≡ walked_to p row (i + 1)
more p row i e f = ap₂ (λ (m n : ℕ). m + n) e f ∙ sym (walked_next p row i)

pub loop-i-init : goal.loop-i-init
loop-i-init c =
    let t = c.args.tables in
    let none = found_none (effect_in t) (row_in t) (traffic_of c.args.live) in
    (by_limit _ (none _) (none _), sym (walked_start (profile_in t) (row_in t)), c.row_count-i-end.ensures)

pub overflow_add-walked : goal.overflow_add-walked
overflow_add-walked c =
    let t = c.args.tables in
    let i = c.loop-i.i in
    let last : i + 1 ≤ rows_in t = omega (arith, c.row_count-i-end.ensures) in
    omega (arith, more (profile_in t) (row_in t) i c.loop-i.invariant.1 c.row-next.ensures.length_value, walked_near t.fit (profile_in t) (i + 1) last)

pub loop-i-preserved : goal.loop-i-preserved
loop-i-preserved c =
    let t = c.args.tables in
    let l = c.loop-i in
    let next = c.row-next in (
      rw c.with_row-states.ensures (found_next (effect_in t) (row_in t) (traffic_of c.args.live) l.i c.is_of_service.result l.states next.result.best c.is_of_service.ensures next.ensures.best_value l.invariant.0),
      grind (arith, more (profile_in t) (row_in t) l.i l.invariant.1 next.ensures.length_value),
      c.row_count-i-end.ensures,
    )
