-- No set of loaded k-ths beats a sense's whole pieces, and no element its sense's line effect.
use Rattle.std.specs.Prelude.{if◌then◌else◌}
use mathlib.Core.Path.{◌≡◌, refl, ◌∙◌, ap, subst}
use mathlib.Core.Logic.{◌⊎◌, inl, inr}
use mathlib.Core.Bool.{Bool, true, false}
use mathlib.Core.List.{List}
use Prim.Native.Nat.{ℕ, zero, suc, ◌*◌, ◌<◌}
use native.Mathlib.Numerals.{add-one}
use native.Mathlib.Omega.{arith}
use lib.Dec.{eqb}
use lib.IntN.{ℤ, pos, ◌+ℤ◌, ◌-ℤ◌, ◌*ℤ◌}
use lib.ListN.{get_or}
use Rattle.exact.specs.Questions.{NoBetter}
use Rattle.exact.specs.Ranges.{sum_to}
use Rattle.exact.specs.declared.Question.{Question}
use Rattle.exact.specs.declared.Question.TheVariants.{Greatest, Least}
use Rattle.exact.proofs.Exact.{◌⊕◌, ◌⊗◌, ◌⊝◌, lit, ◌≐◌, solve}
use Rattle.exact.proofs.Extremes.{no_better_refl, no_better_trans, no_better_add, no_better_scale, no_better_between}
use Rattle.exact.proofs.Ranges.{sum_cong, sum_mono, sum_scale, sum_zero}
use Rattle.model.specs.Job.{Piece, InfluenceLine}
use Rattle.model.specs.Line.{axle, uniform, along, end_sum, patch_byte, loaded_byte, sought, piece_load, uniform_part, best_pair, line_effect}
use Rattle.model.specs.Arrangements.{Element, loaded_parts, element_line}
use Rattle.model.specs.declared.Sense.{Sense}
use Rattle.model.proofs.LineLimits.{Sided, above, below, OneSigned}
use Rattle.model.proofs.Signs.{loaded_sum, loaded_bound, multiple_zero, axle_scale}
use Rattle.model.proofs.Pair.{pair_bound}

-- what both branches have, the choice has
pub either : {A : Type 0} (P : A → Type 0) (t : Bool) (x y : A) → P x → P y → P (if t then x else y)
either P true x y h k = h
either P false x y h k = k

-- ---- the k-ths of a piece
module _ (k : ℕ) (p : Piece) where
  -- the ordinates at the two ends of part j, times k
  abbrev ends : ℕ → ℤ
  ends j = along k j p +ℤ along k (suc j) p

  -- the first n of them
  sum_ends : (n : ℕ) → sum_to n ends ≡ (pos 2 *ℤ pos k *ℤ pos n -ℤ pos n *ℤ pos n) *ℤ p.left +ℤ pos n *ℤ pos n *ℤ p.right
  unfolding along
  sum_ends zero = solve 3 (λ k a b. lit 0 ≐ (lit 2 ⊗ k ⊗ lit 0 ⊝ lit 0 ⊗ lit 0) ⊗ a ⊕ lit 0 ⊗ lit 0 ⊗ b) tt (pos k) p.left p.right
  sum_ends (suc n) =
      let a = p.left in
      let b = p.right in
      ap (λ (x : ℤ). x +ℤ ends n) (sum_ends n)
      ∙ subst (λ (m : ℤ). (pos 2 *ℤ pos k *ℤ pos n -ℤ pos n *ℤ pos n) *ℤ a +ℤ pos n *ℤ pos n *ℤ b +ℤ ((pos k -ℤ pos n) *ℤ a +ℤ pos n *ℤ b +ℤ ((pos k -ℤ m) *ℤ a +ℤ m *ℤ b)) ≡ (pos 2 *ℤ pos k *ℤ m -ℤ m *ℤ m) *ℤ a +ℤ m *ℤ m *ℤ b)
      (ap pos (add-one n))
      (solve 4 (λ k n a b. let m = n ⊕ lit 1 in (lit 2 ⊗ k ⊗ n ⊝ n ⊗ n) ⊗ a ⊕ n ⊗ n ⊗ b ⊕ ((k ⊝ n) ⊗ a ⊕ n ⊗ b ⊕ ((k ⊝ m) ⊗ a ⊕ m ⊗ b)) ≐ (lit 2 ⊗ k ⊗ m ⊝ m ⊗ m) ⊗ a ⊕ m ⊗ m ⊗ b) tt (pos k) (pos n) a b)

  -- all k of them
  whole : sum_to k ends ≡ pos (k * k) *ℤ end_sum p
  whole = sum_ends k ∙ solve 3 (λ k a b. (lit 2 ⊗ k ⊗ k ⊝ k ⊗ k) ⊗ a ⊕ k ⊗ k ⊗ b ≐ k ⊗ k ⊗ (a ⊕ b)) tt (pos k) p.left p.right

  -- a part of a piece of one sign has that sign
  part_signed : (q : Question) → NoBetter q p.left (pos 0) → NoBetter q p.right (pos 0) → (j : ℕ) → j < k → NoBetter q (ends j) (pos 0)
  unfolding along
  part_signed q a b j l =
      subst (NoBetter q (ends j)) (solve 1 (λ k. k ⊗ lit 0 ⊕ k ⊗ lit 0 ≐ lit 0) tt (pos k))
      (no_better_add q (along k j p) (pos k *ℤ pos 0) (along k (suc j) p) (pos k *ℤ pos 0)
      (no_better_between q k j p.left p.right (pos 0) (omega arith) a b)
      (no_better_between q k (suc j) p.left p.right (pos 0) (omega arith) a b))

  -- so either every part helps or none does
  helpful : (q : Question) → Sided p → ((j : ℕ) → j < k → NoBetter q (pos 0) (ends j)) ⊎ ((j : ℕ) → j < k → NoBetter q (ends j) (pos 0))
  helpful Greatest (above a b) = inl (part_signed Least a b)
  helpful Greatest (below a b) = inr (part_signed Greatest a b)
  helpful Least (above a b) = inr (part_signed Least a b)
  helpful Least (below a b) = inl (part_signed Greatest a b)

  -- any set of parts
  parts_bound : (q : Question) (loads : ℕ → Bool) (v : ℤ) → Sided p → NoBetter q (end_sum p) v → NoBetter q (pos 0) v → NoBetter q (sum_to k (λ j. if loads j then ends j else pos 0)) (pos (k * k) *ℤ v)
  parts_bound q loads v s all none =
      elim (helpful q s) [
        | inl h ↦ no_better_trans q _ _ _
            (subst (NoBetter q (sum_to k loaded)) whole (sum_mono q k loaded ends (λ j l. either (λ x. NoBetter q x (ends j)) (loads j) (ends j) (pos 0) (no_better_refl q (ends j)) (h j l))))
            (no_better_scale q (k * k) (end_sum p) v all)
        | inr h ↦ no_better_trans q _ _ _
            (subst (NoBetter q (sum_to k loaded)) (sum_zero k (λ j. pos 0) (λ j l. refl)) (sum_mono q k loaded (λ j. pos 0) (λ j l. either (λ x. NoBetter q x (pos 0)) (loads j) (ends j) (pos 0) (h j l) (no_better_refl q (pos 0)))))
            (multiple_zero q (k * k) v none)
      ]
    where
      loaded : ℕ → ℤ
      loaded j = if loads j then ends j else pos 0

  -- the uniform load of a set of parts, in 75 N·U times k k
  abbrev parts_load : ℕ → (ℕ → Bool) → ℤ
  parts_load h loads = uniform *ℤ pos h *ℤ sum_to k (λ j. if loads j then ends j else pos 0)

  -- k k times the load of the piece
  times_load : (sense : Sense) (h : ℕ) → uniform *ℤ pos h *ℤ (pos (k * k) *ℤ loaded_sum sense p) ≡ pos (k * k) *ℤ piece_load sense h p
  unfolding piece_load
  times_load sense h = solve 3 (λ h k x. lit 7 ⊗ h ⊗ (k ⊗ x) ≐ k ⊗ (lit 7 ⊗ h ⊗ x)) tt (pos h) (pos (k * k)) (loaded_sum sense p)

  -- no set of parts beats it
  piece_bound : (sense : Sense) (h : ℕ) (loads : ℕ → Bool) → Sided p → NoBetter (sought sense) (parts_load h loads) (pos (k * k) *ℤ piece_load sense h p)
  piece_bound sense h loads s =
      let b = loaded_bound sense p in
      subst (NoBetter (sought sense) (parts_load h loads)) (times_load sense h) (no_better_scale (sought sense) (7 * h) _ _ (parts_bound (sought sense) loads (loaded_sum sense p) s b.0 b.1))

  -- the whole piece, where it has the sense's byte, or none of it has just that
  piece_given : (sense : Sense) (h : ℕ) (loads : ℕ → Bool) → ((j : ℕ) → loads j ≡ eqb (patch_byte p) (loaded_byte sense)) → parts_load h loads ≡ pos (k * k) *ℤ piece_load sense h p
  piece_given sense h loads e =
      ap (λ (x : ℤ). uniform *ℤ pos h *ℤ x) (sum_cong k _ _ (λ j l. ap (λ (t : Bool). if t then ends j else pos 0) (e j)) ∙ all_or_none (eqb (patch_byte p) (loaded_byte sense)))
      ∙ times_load sense h
    where
      all_or_none : (t : Bool) → sum_to k (λ j. if t then ends j else pos 0) ≡ pos (k * k) *ℤ (if t then end_sum p else pos 0)
      all_or_none true = whole
      all_or_none false = sum_zero k (λ j. pos 0) (λ j l. refl) ∙ solve 1 (λ c. lit 0 ≐ c ⊗ lit 0) tt (pos (k * k))

-- ---- the line
module _ (line : InfluenceLine) (sense : Sense) (k : ℕ) where
  -- k k times each piece's load
  scaled : sum_to line.pieces (λ i. pos (k * k) *ℤ piece_load sense line.h (line.piece i)) ≡ pos (k * k) *ℤ uniform_part line sense
  unfolding uniform_part
  scaled = sum_scale line.pieces (pos (k * k)) (λ i. piece_load sense line.h (line.piece i))

  -- no set of loaded k-ths beats k k times the sense's whole pieces
  pub loaded_parts_bound : (e : Element) → OneSigned line → NoBetter (sought sense) (loaded_parts line k e) (pos (k * k) *ℤ uniform_part line sense)
  unfolding loaded_parts
  loaded_parts_bound e signed =
      subst (NoBetter (sought sense) (loaded_parts line k e)) scaled
      (sum_mono (sought sense) line.pieces _ _ (λ i l. piece_bound k (line.piece i) sense line.h (e.loads i) (signed i l)))

  -- no element's longitudinal effect beats k k times its kind's line effect for the sense
  pub line_bound : (e : Element) → OneSigned line → zero < k → NoBetter (sought sense) (element_line line k e) (pos (k * k) *ℤ line_effect line e.kind sense)
  unfolding element_line line_effect
  line_bound e signed h =
      let q = sought sense in
      subst (NoBetter q (element_line line k e))
      (solve 4 (λ k u a m. k ⊗ k ⊗ u ⊕ a ⊗ (k ⊗ (k ⊗ m)) ≐ k ⊗ k ⊗ (u ⊕ a ⊗ m)) tt (pos k) (uniform_part line sense) (axle e.kind) (best_pair line sense))
      (no_better_add q _ _ _ _ (loaded_parts_bound e signed) (axle_scale q e.kind _ _ (no_better_scale q k _ _ (pair_bound line sense k e.left e.side h))))

  -- an element that loads just the pieces with its sense's byte, of a buffer that has the patch bytes, has the uniform part of its sense
  pub loaded_parts_given : (e : Element) (patch : List ℕ) → ((i : ℕ) → i < line.pieces → get_or patch i 0 ≡ patch_byte (line.piece i)) → ((i j : ℕ) → e.loads i j ≡ eqb (get_or patch i 0) (loaded_byte sense)) →
      loaded_parts line k e ≡ pos (k * k) *ℤ uniform_part line sense
  unfolding loaded_parts
  loaded_parts_given e patch bytes loads =
      sum_cong line.pieces _ _ (λ i l. piece_given k (line.piece i) sense line.h (e.loads i) (λ j. loads i j ∙ ap (λ (x : ℕ). eqb x (loaded_byte sense)) (bytes i l)))
      ∙ scaled
