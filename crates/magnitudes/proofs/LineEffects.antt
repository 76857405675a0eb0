-- How far from zero a line's effects are, by its ordinates.
use Rattle.std.specs.Prelude.{if◌then◌else◌}
use mathlib.Core.Path.{◌≡◌, ap, subst}
use Prim.Native.Nat.{ℕ, zero, suc, ◌+◌, ◌*◌, ◌/◌, ◌%◌, ◌≤◌, ◌<◌}
use native.Mathlib.Nat.{le_refl, mod-one, mul-le-mul_right}
use native.Mathlib.Omega.{arith}
use lib.Dec.{ltb, eqb}
use lib.IntN.{ℤ, pos, negsuc, nat_abs}
use borrow.Author.Tests.{ltb-true}
use Rattle.exact.specs.Bounds.{Within}
use Rattle.exact.specs.Parts.{up}
use Rattle.exact.specs.Ranges.{sum_to}
use Rattle.exact.proofs.Bounds.{within_le, within_pos, within_add, within_mul}
use Rattle.exact.proofs.Bridge.{by_test}
use Rattle.exact.proofs.Extremes.{better_ind, extreme_met}
use Rattle.exact.proofs.Ring.{◌⊕◌, ◌⊝◌, ◌⊗◌, lit, ◌≐◌, solve}
use Rattle.model.specs.Job.{InfluenceLine}
use Rattle.model.specs.Line.{Kind, HN, HO, axle, axle_spacing, along, ordinate, pair, end_sum, patch_byte, loaded_byte, sought, piece_load, uniform_part, station, best_pair, line_effect}
use Rattle.model.specs.declared.Sense.{Sense}
use Rattle.model.specs.declared.Side.{Side}
use Rattle.model.specs.declared.Side.TheVariants.{Left, Right}

-- every ordinate is from -m to m
abbrev pub OrdinatesWithin : ℕ → InfluenceLine → Type 0
OrdinatesWithin m line = (i : ℕ) → i < line.pieces → Within m (line.piece i).left × Within m (line.piece i).right

-- n numbers of at most b
sum_within : (b n : ℕ) (f : ℕ → ℤ) → ((i : ℕ) → i < n → Within b (f i)) → Within (n * b) (sum_to n f)
sum_within b zero f near = within_pos _ (omega arith)
sum_within b (suc n) f near = within_le (within_add (sum_within b n f (λ i h. near i (omega arith))) (near n (omega arith))) (omega arith)

module _ (m : ℕ) (line : InfluenceLine) (near : OrdinatesWithin m line) where
  -- an axle counts an ordinate or nothing
  ordinate_near : (z : ℤ) (side : Side) → Within m (ordinate line 1 z side)
  unfolding ordinate along
  ordinate_near (pos zero) Left = within_pos m (omega arith)
  ordinate_near (pos (suc y)) Left =
      by_test (ltb (y / 1) line.pieces) (λ t. Within m (if t then along 1 (suc (y % 1)) (line.piece (y / 1)) else pos 0))
      (λ t. rw (mod-one y) (subst (Within m) (solve 2 (λ a b. b ≐ (lit 1 ⊝ lit 1) ⊗ a ⊕ lit 1 ⊗ b) tt (line.piece (y / 1)).left (line.piece (y / 1)).right) (near (y / 1) (ltb-true _ _ t)).1))
      (λ _. within_pos m (omega arith))
  ordinate_near (pos z) Right =
      by_test (ltb (z / 1) line.pieces) (λ t. Within m (if t then along 1 (z % 1) (line.piece (z / 1)) else pos 0))
      (λ t. rw (mod-one z) (subst (Within m) (solve 2 (λ a b. a ≐ (lit 1 ⊝ lit 0) ⊗ a ⊕ lit 0 ⊗ b) tt (line.piece (z / 1)).left (line.piece (z / 1)).right) (near (z / 1) (ltb-true _ _ t)).0))
      (λ _. within_pos m (omega arith))
  ordinate_near (negsuc z) side = within_pos m (omega arith)

  pair_near : (z : ℤ) (side : Side) → Within (m + m) (pair line 1 z side)
  unfolding pair
  pair_near z side = within_add (ordinate_near z side) (ordinate_near _ side)

  best_near : (sense : Sense) → Within (m + m) (best_pair line sense)
  unfolding best_pair
  best_near sense =
      let met = extreme_met (sought sense) (line.pieces + axle_spacing line) _ in
      subst (Within (m + m)) met.its (better_ind (sought sense) (Within (m + m)) _ _ (pair_near (station line met.who) Left) (pair_near (station line met.who) Right))

  -- a piece's uniform load, and the line's, which is at most 1000 dm long
  piece_near : (sense : Sense) (i : ℕ) → i < line.pieces → Within (7 * line.h * (m + m)) (piece_load sense line.h (line.piece i))
  unfolding piece_load
  piece_near sense i h =
      within_mul (within_mul (within_pos 7 (omega arith)) (within_pos line.h (le_refl _)))
      (by_test (eqb (patch_byte (line.piece i)) (loaded_byte sense)) (λ t. Within (m + m) (if t then end_sum (line.piece i) else pos 0)) (λ _. within_add (near i h).0 (near i h).1) (λ _. within_pos _ (omega arith)))

  uniform_near : line.pieces * line.h ≤ 1000 → (sense : Sense) → Within (14000 * m) (uniform_part line sense)
  unfolding uniform_part
  uniform_near reach sense =
      let n = line.pieces in
      let e : n * (7 * line.h * (m + m)) ≡ n * line.h * (14 * m) = ap nat_abs (solve 3 (λ n h m. n ⊗ (lit 7 ⊗ h ⊗ (m ⊕ m)) ≐ n ⊗ h ⊗ (lit 14 ⊗ m)) tt (pos n) (pos line.h) (pos m)) in
      within_le (sum_within (7 * line.h * (m + m)) n _ (piece_near sense)) (omega (arith, mul-le-mul_right (14 * m) reach))

  axle_near : (kind : Kind) → Within (up (axle kind)) (axle kind)
  axle_near HN = within_pos 1600 (omega arith)
  axle_near HO = within_pos 3200 (omega arith)

  -- a kind's line effect
  pub effect_near : line.pieces * line.h ≤ 1000 → (kind : Kind) (sense : Sense) → Within (14000 * m + up (axle kind) * (m + m)) (line_effect line kind sense)
  unfolding line_effect
  effect_near reach kind sense = within_add (uniform_near reach sense) (within_mul (axle_near kind) (best_near sense))
