-- `==` of a word and a number, as the code runs it.
use mathlib.Core.Path.{◌≡◌, refl, sym, ◌∙◌, ap}
use mathlib.Core.Bool.{true, false, and-eq-true_iff}
use Prim.Native.Nat.{ℕ}
use native.Mathlib.Omega.{arith}
use lib.IntN.{ℤ, pos}
use lib.Signed.{le_z}
use mir.Syntax.{w64}
use mir.Val.{of_z}
use Rattle.exact.proofs.Bridge.{by_test, ℕ→≡}
use Rattle.exact.proofs.Tests.{le_is}
use Rattle.model.specs.Format.{is}

is_same : (m : ℕ) (z : ℤ) → is m z ≡ true → z ≡ pos m
is_same m z t =
    let b = (and-eq-true_iff (le_z (pos m) z) (le_z z (pos m))).0 t in
    ℕ→≡ z (pos m) (omega (arith, le_is (pos m) z b.0, le_is z (pos m) b.1))

-- `z == m` failed, of a z that a call returned for x
pub is_failed : (m : ℕ) {z x : ℤ} → z ≡ x → (of_z w64 z ≡ of_z w64 (pos m) → ⊥) → is m x ≡ false
is_failed m {z} e d = ap (is m) (sym e) ∙ by_test (is m z) (λ t. t ≡ false) (λ t. absurd (d (ap (of_z w64) (is_same m z t)))) (λ _. refl)
