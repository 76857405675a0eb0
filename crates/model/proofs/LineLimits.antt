-- Refusals 4 and 5: a job without them has ordinates within their limits, and pieces of one sign.
use mathlib.Core.Path.{◌≡◌, refl}
use mathlib.Core.Bool.{Bool, true, false, ◌&&◌, ◌||◌, true≢false}
use Rattle.std.specs.Prelude.{None}
use mathlib.Core.List.{List}
use Prim.Native.Nat.{ℕ, ◌+◌, ◌*◌, ◌/◌, ◌%◌, ◌≤◌, ◌<◌}
use native.Mathlib.Decide.{dec_le}
use native.Mathlib.Omega.{arith}
use lib.IntN.{ℤ, pos}
use lib.Signed.{◌≤ℤ◌, lt_z}
use borrow.Author.Tests.{not-true}
use Rattle.exact.specs.Bounds.{Within}
use Rattle.exact.proofs.Bounds.{within_le}
use Rattle.exact.proofs.Order.{lt→le}
use Rattle.exact.proofs.Tests.{lt_z_true, lt_z_false}
use Rattle.words.specs.Words.{word_at}
use Rattle.model.specs.Format.{header_of, line_layout, ordinate_limit, across_layout, format, size, words, section_of}
use Rattle.model.specs.Job.{Piece, InfluenceLine}
use Rattle.model.specs.Decode.{influence_line, decode}
use Rattle.words.specs.Fields.{misfit}
use Rattle.model.specs.Refusals.{crosses, signs, fault4, fault5}
use Rattle.model.specs.declared.Edition.{Edition}
use Rattle.model.specs.declared.Edition.TheVariants.{First, Second, Third, Fourth}
use Rattle.model.specs.declared.Part.TheVariants.{Line, Transverse, SecondTransverse}
use Rattle.model.proofs.Counts.{between_within}
use Rattle.words.proofs.Fits.{or_none, moved_none, fits, first_fits}

-- ---- 4: ordinates
-- a line section without a place at fault has ordinates from -m to m
pub ordinates_within : (m : ℕ) (s : List ℕ) (n : ℕ) → misfit (line_layout m n) s ≡ None → (k : ℕ) → k < size Line * n → Within m (word_at s k)
ordinates_within m s n clear k h =
    let i = k / 2 in
    elim (dec_le (k % 2) 0) [
      | yes z ↦ let e : 2 * i ≡ k = omega arith in rw e at (between_within m (word_at s (2 * i)) (first_fits (line_layout m n) s clear i (omega arith) (omega arith)))
      | no z ↦ let e : 2 * i + 1 ≡ k = omega arith in rw e at (between_within m (word_at s (2 * i + 1)) (fits (line_layout m n) s clear i 1 (omega arith) (omega arith)))
    ]

-- a transverse section without one has ordinates from -1000 to 1000 thousandths
across_within : (s : List ℕ) (w g : ℕ) → misfit (across_layout w g) s ≡ None → (k : ℕ) → k < (across_layout w g).items → Within 1000 (word_at s k)
across_within s w g clear k h =
    let e : 1 * k ≡ k = omega arith in
    rw e at (between_within 1000 (word_at s (1 * k)) (first_fits (across_layout w g) s clear k h (omega arith)))

-- no edition's limit is above 5000
limit_most : (e : Edition) → ordinate_limit e ≤ 5000
limit_most First = omega arith
limit_most Second = omega arith
limit_most Third = omega arith
limit_most Fourth = omega arith

module _ (b : List ℕ) (clear : fault4 b ≡ None) where
  -- neither the line nor a transverse section has a place at fault
  ordinates : (misfit (format (header_of b) Line) (section_of b Line) ≡ None) × (misfit (format (header_of b) Transverse) (section_of b Transverse) ≡ None) × (misfit (format (header_of b) SecondTransverse) (section_of b SecondTransverse) ≡ None)
  unfolding fault4
  ordinates = let r = or_none _ _ clear in let t = or_none _ _ r.1 in (moved_none _ _ r.0, moved_none _ _ t.0, moved_none _ _ (or_none _ None t.1).0)

  -- the line's ordinates are within its edition's limit
  pub line_limited : (k : ℕ) → k < words (header_of b) Line → Within (ordinate_limit (header_of b).edition) (word_at (section_of b Line) k)
  line_limited = ordinates_within (ordinate_limit (header_of b).edition) (section_of b Line) (header_of b).pieces ordinates.0

  -- so from -5000 to 5000
  pub line_within : (k : ℕ) → k < words (header_of b) Line → Within 5000 (word_at (section_of b Line) k)
  line_within k h = within_le (line_limited k h) (limit_most (header_of b).edition)

  -- and the transverse ordinates of either carriageway from -1000 to 1000 thousandths
  pub transverse_within : (k : ℕ) → k < (format (header_of b) Transverse).items → Within 1000 (word_at (section_of b Transverse) k)
  transverse_within = across_within (section_of b Transverse) (header_of b).width (header_of b).spacing ordinates.1

  pub second_within : (k : ℕ) → k < (format (header_of b) SecondTransverse).items → Within 1000 (word_at (section_of b SecondTransverse) k)
  second_within = across_within (section_of b SecondTransverse) (header_of b).second (header_of b).spacing ordinates.2

-- ---- 5: one sign
-- a piece whose ordinates have one sign
pub data Sided (p : Piece) : Type 0 where
  above : pos 0 ≤ℤ p.left → pos 0 ≤ℤ p.right → Sided p
  below : p.left ≤ℤ pos 0 → p.right ≤ℤ pos 0 → Sided p

-- every piece of the line has one sign
abbrev pub OneSigned : InfluenceLine → Type 0
OneSigned line = (i : ℕ) → i < line.pieces → Sided (line.piece i)

not_crossing : (x y : ℤ) → crosses x y ≡ false → Sided (record { left = x; right = y })
not_crossing x y = go (lt_z (pos 0) x) (lt_z y (pos 0)) (lt_z x (pos 0)) (lt_z (pos 0) y) refl refl refl refl
  where
    go : (a b c d : Bool) → lt_z (pos 0) x ≡ a → lt_z y (pos 0) ≡ b → lt_z x (pos 0) ≡ c → lt_z (pos 0) y ≡ d → (a && b || c && d) ≡ false → Sided (record { left = x; right = y })
    go true true c d ea eb ec ed e = absurd (true≢false e)
    go true false c d ea eb ec ed e = above (lt→le (lt_z_true (pos 0) x ea)) (lt_z_false y (pos 0) eb)
    go false b true true ea eb ec ed e = absurd (true≢false e)
    go false b true false ea eb ec ed e = below (lt_z_false (pos 0) x ea) (lt_z_false (pos 0) y ed)
    go false b false true ea eb ec ed e = above (lt_z_false x (pos 0) ec) (lt→le (lt_z_true (pos 0) y ed))
    go false b false false ea eb ec ed e = below (lt_z_false (pos 0) x ea) (lt_z_false (pos 0) y ed)

-- a section without a crossing piece is of a line whose pieces have one sign
pub section_signed : (s : List ℕ) (h n : ℕ) → misfit (signs n) s ≡ None → OneSigned (influence_line s h n)
section_signed s h n e i l = not_crossing _ _ (not-true _ (first_fits (signs n) s e i l (omega arith)))

-- so has a job without fault 5
pub one_signed : (b : List ℕ) → fault5 b ≡ None → OneSigned (decode b).line
unfolding decode fault5
one_signed b e = section_signed (section_of b Line) (header_of b).h (header_of b).pieces (moved_none _ _ e)
