-- The built-in rows by the lines of the table of factors.
use Rattle.std.specs.Prelude.{if◌then◌else◌}
use mathlib.Core.Path.{◌≡◌, refl, sym, ◌∙◌, ap, subst}
use mathlib.Core.Bool.{Bool}
use Prim.Native.Nat.{ℕ, suc, ◌-◌, ◌≤◌}
use native.Mathlib.Omega.{arith}
use lib.Dec.{eqb, ltb}
use lib.IntN.{ℤ, pos, ◌*ℤ◌}
use borrow.Author.Tests.{eqb-true, ne_eqb, lt-ltb}
use Rattle.exact.proofs.Bridge.{by_test}
use Rattle.exact.proofs.Ring.{◌⊗◌, lit, ◌≐◌, solve}
use Rattle.model.specs.Job.{no_traffic, normal}
use Rattle.model.specs.RuralBridges.{thousandths, group, group_row, group_rows, row_with_k}
use Rattle.groups.specs.FactorLines.{line_row, line_alternative, line_factor}
use Rattle.model.specs.declared.ByLive.{ByLive}
use Rattle.rows.specs.Governed.{live_value}

-- ---- a line's traffic
-- a row's live factor is the same in both alternatives
live_factor : (line : ℕ) → (group_row (line_row line)).factor ≡ line_factor line 0
unfolding line_factor
live_factor line = by_test (ltb line group_rows) (λ b. thousandths (group (if b then suc line else row_with_k) 0) 0 ≡ thousandths (group (if b then suc line else row_with_k) (if b then 0 else 1)) 0) (λ _. refl) (λ _. refl)

-- without traffic the factor is 0
by_normal : (v : ByLive ℤ) (f : ℕ) → pos f *ℤ live_value v (if eqb f 0 then no_traffic else normal) ≡ pos f *ℤ v.normal
by_normal v f =
    by_test (eqb f 0) (λ b. pos f *ℤ live_value v (if b then no_traffic else normal) ≡ pos f *ℤ v.normal)
    (λ b. rw (eqb-true f 0 b) (solve 1 (λ z. lit 0 ⊗ lit 0 ≐ lit 0 ⊗ z) tt v.normal))
    (λ _. refl)

pub line_load : (v : ByLive ℤ) (line : ℕ) → pos (line_factor line 0) *ℤ v.normal ≡ pos (group_row (line_row line)).factor *ℤ live_value v (group_row (line_row line)).live
line_load v line = ap (λ (f : ℕ). pos f *ℤ v.normal) (sym (live_factor line)) ∙ sym (by_normal v (group_row (line_row line)).factor)

-- ---- a row's line
-- row r, from 1 to 20, has line r - 1, its first alternative
pub first_line : (P : ℕ → ℕ → Type 0) (r : ℕ) → 1 ≤ r → r ≤ group_rows → P (line_row (r - 1)) (line_alternative (r - 1)) → P r 0
first_line P r h k p =
    let same : suc (r - 1) ≡ r = omega arith in
    subst (λ (n : ℕ). P n 0) same (subst (λ (b : Bool). P (if b then suc (r - 1) else row_with_k) (if b then 0 else 1)) (lt-ltb (r - 1) group_rows (omega arith)) p)

-- a row but 16 has one alternative and shows no k
pub alone : (r : ℕ) → ¬ (r ≡ row_with_k) → ((group_row r).others ≡ 0) × (0 ≡ (group_row r).k 0)
alone r d = let e = ne_eqb r row_with_k d in (ap (λ (b : Bool). if b then 1 else 0) e, sym (ap (λ (b : Bool). if b then 1300 else 0) e))
