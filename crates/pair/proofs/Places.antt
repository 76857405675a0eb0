-- The pair's places: what it counts at each, by the line's words, and the ranks of what it counts.
use Rattle.std.specs.Prelude.{if◌then◌else◌}
use mathlib.Core.Path.{◌≡◌, refl, sym, ◌∙◌, ap, ap₂, subst}
use mathlib.Core.Bool.{Bool}
use mathlib.Core.List.{List}
use Prim.Native.Nat.{ℕ, zero, suc, ◌+◌, ◌-◌, ◌*◌, ◌/◌, ◌%◌, ◌≤◌, ◌<◌}
use native.Mathlib.Nat.{div-one, mod-one}
use native.Mathlib.Decide.{dec_le, ℕ_discrete}
use native.Mathlib.Omega.{arith}
use lib.Dec.{eqb}
use lib.IntN.{ℤ, pos, negsuc, neg_ℤ-neg_ℤ, ◌+ℤ◌, ◌*ℤ◌}
use lib.Signed.{◌≤ℤ◌}
use borrow.Author.Tests.{eq-eqb, ne_eqb, lt-ltb}
use Rattle.exact.specs.Bounds.{Within}
use Rattle.exact.specs.Parts.{up}
use Rattle.exact.specs.Questions.{better, NoBetter, for_question}
use Rattle.exact.specs.declared.Question.{Question}
use Rattle.exact.specs.declared.Question.TheVariants.{Greatest, Least}
use Rattle.exact.proofs.Bounds.{within_pos, within_neg, within_add, within_mul}
use Rattle.exact.proofs.Bridge.{ℕ→≤, ≤→ℕ, ℕ→≡, added, subbed}
use Rattle.exact.proofs.Extremes.{no_better_trans, no_better_antisym, extreme_step, extreme_bounds, extreme_least}
use Rattle.exact.proofs.Ring.{◌⊕◌, ◌⊝◌, ◌⊗◌, neg, lit, ◌≐◌, ◌≼◌, ◌⇒◌, solve, linear}
use Rattle.magnitudes.specs.Magnitudes.{pair_most}
use Rattle.words.specs.Words.{word_at}
use Rattle.model.specs.Job.{InfluenceLine}
use Rattle.model.specs.Line.{axle_spacing, along, ordinate, pair, station}
use Rattle.model.specs.Decode.{influence_line}
use Rattle.model.specs.declared.Side.{Side}
use Rattle.model.specs.declared.Side.TheVariants.{Left, Right}
use Rattle.model.proofs.Signs.{off_left, off_right}
use Rattle.pair.specs.LineFits.{LineFits}
use Rattle.pair.specs.PairPlaces.{pair_at, side_at, placed, turned, rank_of, rank_most, best_rank, RanksRight}
use Rattle.exact.specs.declared.ByQuestion.{ByQuestion}

-- ---- one axle and the pair, at a station counted as the code counts it
module _ (line : InfluenceLine) where
  -- on the line: the left ordinate of the piece that starts at z, the right one of the piece that ends there
  pub right_on : (z : ℕ) → z < line.pieces → ordinate line 1 (pos z) Right ≡ (line.piece z).left
  unfolding ordinate along
  right_on z h =
      rw (div-one z, mod-one z, lt-ltb z line.pieces h)
      (solve 2 (λ a b. (lit 1 ⊝ lit 0) ⊗ a ⊕ lit 0 ⊗ b ≐ a) tt (line.piece z).left (line.piece z).right)

  pub left_on : (z : ℕ) → ¬ (z ≡ 0) → z - 1 < line.pieces → ordinate line 1 (pos z) Left ≡ (line.piece (z - 1)).right
  unfolding ordinate along
  left_on zero f h = absurd (f refl)
  left_on (suc y) f h =
      let e : suc y - 1 ≡ y = omega arith in
      rw e
      (rw (div-one y, mod-one y, lt-ltb y line.pieces (omega arith))
      (solve 2 (λ a b. (lit 1 ⊝ lit 1) ⊗ a ⊕ lit 1 ⊗ b ≐ b) tt (line.piece y).left (line.piece y).right))

  -- the right axle is at s
  right_axle : (s : ℕ) → station line s +ℤ pos (1 * axle_spacing line) ≡ pos s
  right_axle s = solve 2 (λ s d. s ⊝ d ⊕ lit 1 ⊗ d ≐ s) tt (pos s) (pos (axle_spacing line))

  -- the left axle is at s - d, or off the line
  pair_both : (s : ℕ) (side : Side) → axle_spacing line ≤ s → pair_at line s side ≡ ordinate line 1 (pos (s - axle_spacing line)) side +ℤ ordinate line 1 (pos s) side
  unfolding pair
  pair_both s side h =
      let e : station line s ≡ pos (s - axle_spacing line) = ℕ→≡ (station line s) (pos (s - axle_spacing line)) (omega (arith, subbed (pos s) (pos (axle_spacing line)))) in
      ap₂ (λ (x y : ℤ). ordinate line 1 x side +ℤ ordinate line 1 y side) e (right_axle s)

  pair_ahead : (s : ℕ) (side : Side) → s < axle_spacing line → pair_at line s side ≡ ordinate line 1 (pos s) side
  unfolding pair ordinate
  pair_ahead s side h =
      let e : station line s ≡ negsuc (axle_spacing line - suc s) = ℕ→≡ (station line s) (negsuc (axle_spacing line - suc s)) (omega (arith, subbed (pos s) (pos (axle_spacing line)))) in
      ap₂ (λ (x y : ℤ). ordinate line 1 x side +ℤ ordinate line 1 y side) e (right_axle s)
      ∙ solve 1 (λ x. lit 0 ⊕ x ≐ x) tt (ordinate line 1 (pos s) side)

-- ---- places
pub even_side : (p : ℕ) → p % 2 ≡ 0 → side_at p ≡ Left
even_side p e = ap (λ (b : Bool). if b then Left else Right) (eq-eqb (p % 2) 0 e)

pub odd_side : (p : ℕ) → ¬ (p % 2 ≡ 0) → side_at p ≡ Right
odd_side p e = ap (λ (b : Bool). if b then Left else Right) (ne_eqb (p % 2) 0 e)

-- ---- what the pair counts at a place
module _ (s : List ℕ) (h n : ℕ) where
  abbrev given : InfluenceLine
  given = influence_line s h n

  abbrev d : ℕ
  d = axle_spacing given

  -- one axle at place p
  abbrev axle : ℕ → ℤ
  axle p = ordinate given 1 (pos (p / 2)) (side_at p)

  axle_on : (p k : ℕ) → p ≡ k + 1 → k < 2 * n → axle p ≡ word_at s k
  axle_on p k f l = elim (ℕ_discrete (p % 2) 0) [
    | yes e ↦ let same : 2 * (p / 2 - 1) + 1 ≡ k = omega arith in ap (ordinate given 1 (pos (p / 2))) (even_side p e) ∙ left_on given (p / 2) (λ z. omega arith) (omega arith) ∙ ap (word_at s) same
    | no e ↦ let same : 2 * (p / 2) ≡ k = omega arith in ap (ordinate given 1 (pos (p / 2))) (odd_side p e) ∙ right_on given (p / 2) (omega arith) ∙ ap (word_at s) same
  ]

  axle_before : (p : ℕ) → p ≡ 0 → axle p ≡ pos 0
  unfolding ordinate
  axle_before p e = ap axle e

  axle_past : (p : ℕ) → 2 * n < p → axle p ≡ pos 0
  axle_past p l = elim (ℕ_discrete (p % 2) 0) [
    | yes e ↦ ap (ordinate given 1 (pos (p / 2))) (even_side p e) ∙ off_left given (p / 2) (omega arith)
    | no e ↦ ap (ordinate given 1 (pos (p / 2))) (odd_side p e) ∙ off_right given (p / 2) (omega arith)
  ]

  -- the left axle is twice the axle spacing of places before, or before the line
  placed_is : (p : ℕ) → placed given p ≡ axle (p - 2 * d) +ℤ axle p
  unfolding placed
  placed_is p = elim (dec_le (2 * d) p) [
    | yes l ↦
        let e : p / 2 - d ≡ (p - 2 * d) / 2 = omega arith in
        let f : p % 2 ≡ (p - 2 * d) % 2 = omega arith in
        pair_both given (p / 2) (side_at p) (omega arith) ∙ ap₂ (λ (k : ℕ) (side : Side). ordinate given 1 (pos k) side +ℤ axle p) e (ap (λ (k : ℕ). if eqb k 0 then Left else Right) f)
    | no l ↦ pair_ahead given (p / 2) (side_at p) (omega arith) ∙ solve 1 (λ z. z ≐ lit 0 ⊕ z) tt (axle p) ∙ ap (λ (z : ℤ). z +ℤ axle p) (sym (axle_before (p - 2 * d) (omega arith)))
  ]

  pub placed_ahead : (p k : ℕ) → p ≡ k + 1 → k < 2 * n → k < 2 * d → placed given p ≡ word_at s k
  placed_ahead p k e l m = placed_is p ∙ ap₂ ◌+ℤ◌ (axle_before (p - 2 * d) (omega arith)) (axle_on p k e l) ∙ solve 1 (λ z. lit 0 ⊕ z ≐ z) tt (word_at s k)

  pub placed_both : (p k j : ℕ) → p ≡ k + 1 → k ≡ j + 2 * d → k < 2 * n → placed given p ≡ word_at s j +ℤ word_at s k
  placed_both p k j e f l = placed_is p ∙ ap₂ ◌+ℤ◌ (axle_on (p - 2 * d) j (omega arith) (omega arith)) (axle_on p k e l)

  pub placed_behind : (p k : ℕ) → p ≡ k + 2 * d + 1 → k < 2 * n → 2 * n ≤ k + 2 * d → placed given p ≡ word_at s k
  placed_behind p k e l m = placed_is p ∙ ap₂ ◌+ℤ◌ (axle_on (p - 2 * d) k (omega arith) l) (axle_past p (omega arith)) ∙ solve 1 (λ z. z ⊕ lit 0 ≐ z) tt (word_at s k)

  -- neither axle is on the line
  pub placed_start : placed given 0 ≡ pos 0
  placed_start = placed_is 0 ∙ ap₂ ◌+ℤ◌ (axle_before (0 - 2 * d) (omega arith)) (axle_before 0 refl)

  pub placed_gap : (p : ℕ) → 2 * n < p → p ≤ 2 * d → placed given p ≡ pos 0
  placed_gap p l m = placed_is p ∙ ap₂ ◌+ℤ◌ (axle_before (p - 2 * d) (omega arith)) (axle_past p l)

  pub placed_end : (p : ℕ) → 2 * n + 2 * d < p → placed given p ≡ pos 0
  placed_end p l = placed_is p ∙ ap₂ ◌+ℤ◌ (axle_past (p - 2 * d) (omega arith)) (axle_past p (omega arith))

  axle_near : LineFits s n → (p : ℕ) → Within 5000 (axle p)
  axle_near fits p = elim (ℕ_discrete p 0) [
    | yes e ↦ subst (Within 5000) (sym (axle_before p e)) (within_pos 5000 (omega arith))
    | no e ↦ elim (dec_le p (2 * n)) [
      | yes l ↦ subst (Within 5000) (sym (axle_on p (p - 1) (omega arith) (omega arith))) (fits.near (p - 1) (omega arith))
      | no l ↦ subst (Within 5000) (sym (axle_past p (omega arith))) (within_pos 5000 (omega arith))
    ]
  ]

  pub placed_near : LineFits s n → (p : ℕ) → Within 10000 (placed given p)
  placed_near fits p = subst (Within 10000) (sym (placed_is p)) (within_add (axle_near fits (p - 2 * d)) (axle_near fits p))

-- ---- ranks
pub turn_back : (q : Question) (x : ℤ) → turned q (turned q x) ≡ x
turn_back Greatest x = neg_ℤ-neg_ℤ x
turn_back Least x = refl

-- a turned rank is the turned ordinates and the place
pub turn_rank : (q : Question) (v : ℤ) (p : ℕ) → turned q (rank_of q v p) ≡ pos 65536 *ℤ turned q v +ℤ pos p
turn_rank Greatest v p = solve 2 (λ v p. neg (lit 65536 ⊗ v ⊕ neg p) ≐ lit 65536 ⊗ neg v ⊕ p) tt v (pos p)
turn_rank Least v p = refl

pub turn_near : (q : Question) {m : ℕ} {x : ℤ} → Within m x → Within m (turned q x)
turn_near Greatest r = within_neg r
turn_near Least r = r

pub rank_near : (q : Question) (v : ℤ) (p : ℕ) → Within pair_most v → p ≤ 4095 → Within rank_most (rank_of q v p)
rank_near q v p near few = within_add (within_mul (within_pos 65536 (omega arith)) near) (turn_near q (within_pos 4095 few))

-- ordinates are raised to a natural number
pub raised : (v : ℤ) → Within pair_most v → v +ℤ pos 10001 ≡ pos (up (v +ℤ pos 10001))
raised v near = natural (v +ℤ pos 10001) (ℕ→≤ (omega (arith, added v (pos 10001), near.dn≤)))
  where
    natural : (z : ℤ) → pos 0 ≤ℤ z → z ≡ pos (up z)
    natural (pos k) l = refl
    natural (negsuc k) l = absurd (omega (arith, ≤→ℕ l))

-- and so is a turned rank
pub rank_raised : (q : Question) (v : ℤ) (p : ℕ) → Within pair_most v → turned q (rank_of q v p) +ℤ pos 65536 *ℤ pos 10001 ≡ pos (65536 * up (turned q v +ℤ pos 10001) + p)
rank_raised q v p near =
    ap (λ (z : ℤ). z +ℤ pos 65536 *ℤ pos 10001) (turn_rank q v p)
    ∙ solve 2 (λ w p. lit 65536 ⊗ w ⊕ p ⊕ lit 65536 ⊗ lit 10001 ≐ lit 65536 ⊗ (w ⊕ lit 10001) ⊕ p) tt (turned q v) (pos p)
    ∙ ap (λ (z : ℤ). pos 65536 *ℤ z +ℤ pos p) (raised (turned q v) (turn_near q near))

-- one place more
pub ranks_more : (f : ℕ → ℤ) (m : ℕ) {best r : ByQuestion ℤ} {v : ℤ} → ((q : Question) → for_question q r ≡ better q (for_question q best) (rank_of q v (m + 1))) → v ≡ f (m + 1) → RanksRight f m best → RanksRight f (m + 1) r
unfolding best_rank
ranks_more f m step e right q = step q ∙ ap₂ (better q) (right q) (ap (λ (z : ℤ). rank_of q z (m + 1)) e) ∙ sym (extreme_step q m (λ p. rank_of q (f p) p))

-- place 0 alone, where the pair counts nothing
pub ranks_none : (f : ℕ → ℤ) {r : ByQuestion ℤ} → f 0 ≡ pos 0 → ((q : Question) → for_question q r ≡ rank_of q (pos 0) 0) → RanksRight f 0 r
unfolding best_rank
ranks_none f start e q = e q ∙ ap (λ (z : ℤ). rank_of q z 0) (sym start)

-- later places that count nothing change nothing
pub ranks_skip : (f : ℕ → ℤ) (m k : ℕ) {r : ByQuestion ℤ} → m ≤ k → f 0 ≡ pos 0 → ((p : ℕ) → m < p → p ≤ k → f p ≡ pos 0) → RanksRight f m r → RanksRight f k r
unfolding best_rank
ranks_skip f m k l start none right q =
    right q
    ∙ no_better_antisym q (best_rank q f m) (best_rank q f k)
    (extreme_least q m ranks (best_rank q f k) (λ p e. extreme_bounds q k ranks p (omega arith)))
    (extreme_least q k ranks (best_rank q f m) (λ p e. elim (dec_le p m) [
      | yes i ↦ extreme_bounds q m ranks p i
      | no i ↦ no_better_trans q (ranks p) (ranks 0) (best_rank q f m) (rw (none p (omega arith) e, start) (late q p)) (extreme_bounds q m ranks 0 (omega arith))
    ]))
  where
    ranks : ℕ → ℤ
    ranks p = rank_of q (f p) p

    late : (q : Question) (p : ℕ) → NoBetter q (rank_of q (pos 0) p) (rank_of q (pos 0) 0)
    late Greatest p = linear 1 (λ p. lit 0 ≼ p ⇒ lit 65536 ⊗ lit 0 ⊕ neg p ≼ lit 65536 ⊗ lit 0 ⊕ neg (lit 0)) (pos p) (omega arith) (ℕ→≤ (omega arith))
    late Least p = ℕ→≤ (omega arith)
