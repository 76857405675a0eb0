use mathlib.Core.Path.{◌≡◌, ap}
use mathlib.Core.Bool.{not}
use native.Mathlib.Omega.{arith}
use Prim.Native.Nat.{ℕ, suc, ◌+◌, ◌-◌, ◌≤◌}
use lib.Dec.{eqb}
use lib.ListN.{length, get_or}
use mir.Val.{bool_byte}
use borrow.Author.Tests.{eqb-true, eqb-false}
use Rattle.exact.proofs.Bridge.{by_test}
use Rattle.model.specs.StandardForm.{rising}
use Rattle.tables.specs.ChainsRead.{terms_in}
use Rattle.tables.proofs.Later.{later, later_with, later_without}
use Rattle.tables.proofs.count.Goals as goal

pub loop-factor-init : goal.loop-factor-init
loop-factor-init c =
    let factors = c.args.factors.now in
    let all : length factors - 0 ≡ length factors = omega arith in
    record { few = omega arith; left = omega (arith, ap (λ (m : ℕ). length (rising (λ e. get_or factors (e - 1) 0) 1 m)) all) }

pub loop-factor-preserved : goal.loop-factor-preserved
loop-factor-preserved c =
    let factors = c.args.factors.now in
    let n = length factors in
    let j = c.loop-factor.factor-index in
    let k = c.loop-factor.k in
    let x = get_or factors j 0 in
    let left = c.loop-factor.invariant.left in
    let counts : k + bool_byte (not (eqb x 0)) + length (later factors n (j + 1)) ≡ length (terms_in factors n) =
    by_test (eqb x 0) (λ b. k + bool_byte (not b) + length (later factors n (j + 1)) ≡ length (terms_in factors n))
    (λ t. omega (arith, left, ap length (later_without factors n j (omega arith) (eqb-true x 0 t))))
    (λ f. omega (arith, left, ap length (later_with factors n j (omega arith) (eqb-false x 0 f)))) in
    let one : bool_byte (not (eqb x 0)) ≤ 1 = by_test (eqb x 0) (λ b. bool_byte (not b) ≤ 1) (λ _. omega arith) (λ _. omega arith) in
    record { few = omega (arith, c.from-k.ensures, one, c.loop-factor.invariant.few); left = omega (arith, c.from-k.ensures, counts) }

pub returns : goal.returns
returns c =
    let factors = c.args.factors.now in
    let j = c.loop-factor.factor-index in
    let none : length factors - j ≡ 0 = omega arith in
    omega (arith, c.loop-factor.invariant.left, ap (λ (m : ℕ). length (rising (λ e. get_or factors (e - 1) 0) (suc j) m)) none)
