use mathlib.Core.Path.{◌≡◌, ◌∙◌, ap, subst}
use mathlib.Core.List.{List}
use Prim.Native.Nat.{ℕ, ◌<◌, ◌≤◌}
use native.Mathlib.Omega.{arith}
use lib.Dec.{lit<}
use lib.ListN.{get_or}
use lib.IntN.{pos}
use mir.Syntax.{w64}
use Rattle.exact.specs.Ranges.{list_of}
use Rattle.exact.proofs.Held.{Held, known, nat, retold, told, times, times! }
use Rattle.exact.proofs.Ranges.{get_or_list_of}
use Rattle.groups.specs.FactorLines.{line_factor}
use Rattle.groups.proofs.Table.{factor_small}
use Rattle.rows.proofs.BuiltIn.{line_load}
use Rattle.rows.proofs.state.line_loaded.Goals as goal

-- the line's live factor
factor : (line : ℕ) (factors : List ℕ) → factors ≡ list_of 12 (line_factor line) → line < 21 → Held w64 (get_or factors 0 0) 3000 (pos (line_factor line 0))
factor line factors e h =
    let is : get_or factors 0 0 ≡ line_factor line 0 = ap (λ (xs : List ℕ). get_or xs 0 0) e ∙ get_or_list_of 12 (line_factor line) 0 0 (omega arith) in
    let small : get_or factors 0 0 ≤ 3000 = rw is (factor_small line 0 h (omega arith)) in
    subst (λ (k : ℕ). Held w64 (get_or factors 0 0) 3000 (pos k)) is (nat w64 3000 small (omega arith))

pub overflow_mul-result : goal.overflow_mul-result
overflow_mul-result c = times! (factor c.args.line _ c.factors.ensures c.requires.0) (known w64 c.requires.1.0 (lit< tt)) (lit< tt)

pub returns : goal.returns
returns c =
    let a = c.args in
    told (retold (times (factor a.line _ c.factors.ensures c.requires.0) (known w64 c.requires.1.0 (lit< tt)) (lit< tt)) (line_load a.live a.line))
