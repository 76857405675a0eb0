-- Two words as one number: it fits 64 signed bits, and its low half's 32 bits are read as the definition has them.
use Rattle.std.specs.Prelude.{if◌then◌else◌}
use mathlib.Core.Path.{◌≡◌, refl}
use mathlib.Core.Bool.{true, false}
use Prim.Native.Nat.{ℕ, ◌^◌, ◌<◌}
use native.Mathlib.Omega.{arith}
use borrow.Author.Tests.{ltb-false}
use lib.Dec.{ltb}
use lib.IntN.{ℤ, pos, ◌+ℤ◌, ◌-ℤ◌, ◌*ℤ◌}
use lib.Signed.{lt_z}
use mir.Syntax.{w32, w64}
use mir.Val.{SFits}
use Rattle.exact.proofs.Bounds.{sfits_in, sfits_by}
use Rattle.exact.proofs.Bridge.{by_test, added, subbed, times_up, ℕ→≡}
use Rattle.exact.proofs.Tests.{lt_is, lt_not}
use Rattle.words.specs.Words.{signed32, unsigned32}

module _ {z : ℤ} (f : SFits w32 z) where
  -- the high half in its place
  pub high_fits : SFits w64 (z *ℤ pos 4294967296)
  high_fits = let p = times_up z 4294967296 in let r = sfits_in f in sfits_by w64 _ (omega (arith, p.0, r.0)) (omega (arith, p.1, r.1))

  -- and with the low half
  pub both_fit : {u : ℕ} → u < 2 ^ 32 → SFits w64 (z *ℤ pos 4294967296 +ℤ pos u)
  both_fit {u} h =
      let p = times_up z 4294967296 in
      let r = sfits_in f in
      let s = added (z *ℤ pos 4294967296) (pos u) in
      sfits_by w64 _ (omega (arith, p.0, p.1, r.0, s.up≡)) (omega (arith, p.0, p.1, r.1, s.dn≡))

-- 32 bits are what their signed number is unsigned
pub unsigned_is : (u : ℕ) → u < 2 ^ 32 → unsigned32 (signed32 u) ≡ pos u
unfolding signed32 unsigned32
unsigned_is u h =
    by_test (ltb u (2 ^ 31)) (λ t. ltb u (2 ^ 31) ≡ t → unsigned32 (if t then pos u else (pos u -ℤ pos (2 ^ 32))) ≡ pos u)
    (λ _ _. pick (pos u) (λ e. absurd (omega (arith, lt_is (pos u) (pos 0) e))) (λ _. refl))
    (λ _ e.
    let d = subbed (pos u) (pos 4294967296) in
    pick (pos u -ℤ pos 4294967296)
    (λ _. let s = added (pos u -ℤ pos 4294967296) (pos 4294967296) in ℕ→≡ _ _ (omega (arith, d.up≡, d.dn≡, s.up≡, s.dn≡)))
    (λ n. absurd (omega (arith, d.up≡, d.dn≡, lt_not (pos u -ℤ pos 4294967296) (pos 0) n, ltb-false u (2 ^ 31) e))))
    refl
  where
    pick : (x : ℤ) → (lt_z x (pos 0) ≡ true → x +ℤ pos (2 ^ 32) ≡ pos u) → (lt_z x (pos 0) ≡ false → x ≡ pos u) → unsigned32 x ≡ pos u
    pick x f g = by_test (lt_z x (pos 0)) (λ t. (if t then x +ℤ pos (2 ^ 32) else x) ≡ pos u) f g
