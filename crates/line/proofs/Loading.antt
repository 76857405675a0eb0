-- Which pieces an element of a sense loads, by their ordinate sums: at most one sense's.
use Rattle.std.specs.Prelude.{if◌then◌else◌}
use mathlib.Core.Path.{◌≡◌, refl}
use mathlib.Core.Bool.{Bool, true, false}
use Prim.Native.Nat.{ℕ, ◌+◌, ◌≤◌}
use native.Mathlib.Omega.{arith}
use lib.Dec.{eqb}
use lib.IntN.{pos}
use lib.Signed.{lt_z}
use Rattle.exact.specs.Questions.{beats}
use Rattle.exact.proofs.Bridge.{by_test}
use Rattle.exact.proofs.Tests.{lt_one_way}
use Rattle.model.specs.Job.{Piece}
use Rattle.model.specs.Line.{sought, end_sum, patch_byte, loaded_byte}
use Rattle.model.specs.declared.Sense.{Sense}
use Rattle.model.specs.declared.Sense.TheVariants.{Raising, Lowering}

-- a sense's byte where its elements load the piece, else 0
abbrev pub byte_of : Sense → Piece → ℕ
byte_of sense p = if beats (sought sense) (end_sum p) (pos 0) then loaded_byte sense else 0

pub byte_small : (sense : Sense) → loaded_byte sense ≤ 2
byte_small Raising = omega arith
byte_small Lowering = omega arith

module _ (p : Piece) where
  -- what is above 0, below it, and neither
  by_sign : (P : Bool → Bool → Type 0) → P true false → P false true → P false false → P (lt_z (pos 0) (end_sum p)) (lt_z (end_sum p) (pos 0))
  by_sign P high low zero =
      by_test (lt_z (pos 0) (end_sum p)) (λ a. P a (lt_z (end_sum p) (pos 0)))
      (λ e. rw (lt_one_way (pos 0) (end_sum p) e) high)
      (λ _. by_test (lt_z (end_sum p) (pos 0)) (P false) (λ _. low) (λ _. zero))

  pub bytes_sum : byte_of Raising p + byte_of Lowering p ≡ patch_byte p
  unfolding patch_byte
  bytes_sum = by_sign (λ a b. (if a then 1 else 0) + (if b then 2 else 0) ≡ (if a then 1 else (if b then 2 else 0))) refl refl refl

  pub loaded_by : (sense : Sense) → eqb (patch_byte p) (loaded_byte sense) ≡ beats (sought sense) (end_sum p) (pos 0)
  unfolding patch_byte
  loaded_by Raising = by_sign (λ a b. eqb (if a then 1 else (if b then 2 else 0)) 1 ≡ a) refl refl refl
  loaded_by Lowering = by_sign (λ a b. eqb (if a then 1 else (if b then 2 else 0)) 2 ≡ b) refl refl refl
