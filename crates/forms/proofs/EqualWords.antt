-- Byte strings of the same words are the same.
use mathlib.Core.Path.{◌≡◌, sym, ◌∙◌, ap}
use mathlib.Core.List.{List}
use Prim.Native.Nat.{ℕ, zero, suc, ◌+◌, ◌*◌, ◌/◌, ◌%◌, ◌^◌, ◌<◌}
use native.Mathlib.Omega.{arith}
use lib.ListN.{length}
use lib.Seq.{ext_get_or}
use mir.Syntax.{w32}
use mir.Val.{of_z}
use mir.ValLaws.{of_z-to_z}
use Rattle.words.specs.Words.{byte_at, bits32, signed32, word_at}
use Rattle.words.proofs.Signed.{signed32_is}
use Rattle.model.specs.StandardForm.{AreBytes}

-- 32 bits by their word
same_bits : (u v : ℕ) → u < 2 ^ 32 → v < 2 ^ 32 → signed32 u ≡ signed32 v → u ≡ v
same_bits u v h k e =
    sym (of_z-to_z w32 u (record { fits = h })) ∙ ap (of_z w32) (signed32_is u h ∙ e ∙ sym (signed32_is v k)) ∙ of_z-to_z w32 v (record { fits = k })

-- four bytes by their number
same_four : (a b c d x y z w : ℕ) → a < 256 → b < 256 → c < 256 → d < 256 → x < 256 → y < 256 → z < 256 → w < 256 →
    a + 256 * b + 65536 * c + 16777216 * d ≡ x + 256 * y + 65536 * z + 16777216 * w → (a ≡ x) × (b ≡ y) × (c ≡ z) × (d ≡ w)
same_four a b c d x y z w ha hb hc hd hx hy hz hw e = (omega arith, omega arith, omega arith, omega arith)

module _ (s t : List ℕ) (bs : AreBytes s) (bt : AreBytes t) where
  -- a word's four bytes
  same_bytes : (p : ℕ) → word_at s p ≡ word_at t p → (j : ℕ) → j < 4 → byte_at s (4 * p + j) ≡ byte_at t (4 * p + j)
  unfolding word_at
  same_bytes p e j h = pick j h
    where
      four : (byte_at s (4 * p) ≡ byte_at t (4 * p)) × (byte_at s (4 * p + 1) ≡ byte_at t (4 * p + 1)) × (byte_at s (4 * p + 2) ≡ byte_at t (4 * p + 2)) × (byte_at s (4 * p + 3) ≡ byte_at t (4 * p + 3))
      four =
          same_four _ _ _ _ _ _ _ _ (bs (4 * p)) (bs (4 * p + 1)) (bs (4 * p + 2)) (bs (4 * p + 3)) (bt (4 * p)) (bt (4 * p + 1)) (bt (4 * p + 2)) (bt (4 * p + 3))
          (same_bits (bits32 s (4 * p)) (bits32 t (4 * p)) (omega (arith, bs (4 * p), bs (4 * p + 1), bs (4 * p + 2), bs (4 * p + 3))) (omega (arith, bt (4 * p), bt (4 * p + 1), bt (4 * p + 2), bt (4 * p + 3))) e)

      pick : (j : ℕ) → j < 4 → byte_at s (4 * p + j) ≡ byte_at t (4 * p + j)
      pick zero h = let z : 4 * p + 0 ≡ 4 * p = omega arith in rw z four.0
      pick (suc zero) h = four.1
      pick (suc (suc zero)) h = four.2
      pick (suc (suc (suc zero))) h = four.3
      pick (suc (suc (suc (suc j)))) h = absurd (omega arith)

  -- n words
  pub same_words : (n : ℕ) → length s ≡ 4 * n → length t ≡ 4 * n → ((p : ℕ) → p < n → word_at s p ≡ word_at t p) → s ≡ t
  same_words n ls lt h = ext_get_or 0 s t (ls ∙ sym lt) λ i l.
      let at : 4 * (i / 4) + i % 4 ≡ i = omega arith in
      ap (byte_at s) (sym at) ∙ same_bytes (i / 4) (h (i / 4) (omega arith)) (i % 4) (omega arith) ∙ ap (byte_at t) at
