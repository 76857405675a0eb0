-- The best rank: it is within its bound, and the stand of its place has the sense's best pair.
use mathlib.Core.Path.{◌≡◌, sym, ap₂, subst}
use Prim.Native.Nat.{ℕ, ◌+◌, ◌*◌, ◌/◌, ◌≤◌}
use native.Mathlib.Omega.{arith}
use lib.IntN.{ℤ, pos}
use Rattle.exact.specs.Bounds.{Within}
use Rattle.exact.specs.Questions.{better, NoBetter, extreme}
use Rattle.exact.specs.declared.Question.{Question}
use Rattle.exact.specs.declared.Question.TheVariants.{Greatest, Least}
use Rattle.exact.proofs.Bridge.{ℕ→≤, subbed, up_neg, dn_neg}
use Rattle.exact.proofs.Extremes.{no_better_trans, no_better_antisym, better_left, better_right, better_least, extreme_bounds, extreme_least, Met, extreme_met}
use Rattle.exact.proofs.Ring.{◌⊕◌, ◌⊗◌, neg, lit, ◌≼◌, ◌⇒◌, linear}
use Rattle.magnitudes.specs.Magnitudes.{pair_most}
use Rattle.model.specs.Job.{InfluenceLine}
use Rattle.model.specs.Line.{axle_spacing, station, best_pair}
use Rattle.model.specs.Answered.{PositionRight}
use Rattle.model.specs.declared.Sense.{Sense}
use Rattle.model.specs.declared.Side.{Side}
use Rattle.model.specs.declared.Side.TheVariants.{Left, Right}
use Rattle.model.proofs.Pair.{pair_bound}
use Rattle.pair.specs.PairPlaces.{pair_at, side_at, placed, stand_of, rank_of, rank_most, best_rank}
use Rattle.pair.specs.declared.Stand.{Stand}
use Rattle.pair.proofs.Places.{even_side, odd_side, rank_near}

-- the better of the pair's sides at station s
abbrev pub better_side : Question → InfluenceLine → ℕ → ℤ
better_side q line s = better q (pair_at line s Left) (pair_at line s Right)

-- a stand at one of the stations up to the last, where the pair's ordinates are v
pub record PairStands (line : InfluenceLine) (last : ℕ) (v : ℤ) (s : Stand) : Type 0 where
  pub value : s.value ≡ v
  pub attained : pair_at line s.station s.side ≡ v
  pub station : s.station ≤ last
  pub near : Within pair_most v

-- the better rank has the better ordinates
rank_better : (q : Question) (v w : ℤ) (p r : ℕ) → p ≤ 4095 → r ≤ 4095 → NoBetter q (rank_of q v p) (rank_of q w r) → NoBetter q v w
rank_better Greatest v w p r k l e =
    linear 4 (λ v w a b. a ≼ lit 4095 ⇒ lit 0 ≼ b ⇒ lit 65536 ⊗ v ⊕ neg a ≼ lit 65536 ⊗ w ⊕ neg b ⇒ v ≼ w) v w (pos p) (pos r) (omega arith) (ℕ→≤ (omega arith)) (ℕ→≤ (omega arith)) e
rank_better Least v w p r k l e =
    linear 4 (λ v w a b. a ≼ lit 4095 ⇒ lit 0 ≼ b ⇒ lit 65536 ⊗ w ⊕ b ≼ lit 65536 ⊗ v ⊕ a ⇒ w ≼ v) v w (pos p) (pos r) (omega arith) (ℕ→≤ (omega arith)) (ℕ→≤ (omega arith)) e

-- the best rank is within its bound, as every rank is
pub best_near : (q : Question) (f : ℕ → ℤ) (m : ℕ) → m ≤ 4095 → ((p : ℕ) → Within pair_most (f p)) → Within rank_most (best_rank q f m)
unfolding best_rank
best_near q f m few near =
    let met = extreme_met q m (λ p. rank_of q (f p) p) in
    subst (Within rank_most) met.its (rank_near q (f met.who) met.who (near met.who) (omega (arith, met.below)))

side_bound : (q : Question) (line : InfluenceLine) (s : ℕ) (side : Side) → NoBetter q (pair_at line s side) (better_side q line s)
side_bound q line s Left = better_left q (pair_at line s Left) (pair_at line s Right)
side_bound q line s Right = better_right q (pair_at line s Left) (pair_at line s Right)

-- a place that has the best rank, and its stand
pub record Leads (q : Question) (line : InfluenceLine) (m : ℕ) : Type 0 where
  pub place : ℕ
  pub early : place ≤ 2 * m + 1
  pub is : best_rank q (placed line) (2 * m + 1) ≡ rank_of q (placed line place) place
  pub stands : PairStands line m (extreme q m (better_side q line)) (stand_of (placed line place) place)

pub leads : (q : Question) (line : InfluenceLine) (m : ℕ) → 2 * m + 1 ≤ 4095 → ((p : ℕ) → Within 10000 (placed line p)) → Leads q line m
unfolding best_rank placed
leads q line m few near =
    let early = below in
    record { place = w; early = below; is = sym met.its; stands = record { value = same; attained = same; station = omega arith; near = subst (Within 10000) same (near w) } }
  where
    met : Met (2 * m + 1) (λ p. rank_of q (placed line p) p) (best_rank q (placed line) (2 * m + 1))
    met = extreme_met q (2 * m + 1) (λ p. rank_of q (placed line p) p)

    w : ℕ
    w = met.who

    below : w ≤ 2 * m + 1
    below = met.below

    -- no place beats it
    unbeaten : (p i : ℕ) (side : Side) → p / 2 ≡ i → side_at p ≡ side → p ≤ 2 * m + 1 → NoBetter q (pair_at line i side) (placed line w)
    unbeaten p i side e f l =
        let early = below in
        subst (λ (z : ℤ). NoBetter q z (placed line w)) (ap₂ (pair_at line) e f)
        (rank_better q (placed line p) (placed line w) p w (omega arith) (omega arith) (subst (NoBetter q (rank_of q (placed line p) p)) (sym met.its) (extreme_bounds q (2 * m + 1) (λ p. rank_of q (placed line p) p) p l)))

    same : placed line w ≡ extreme q m (better_side q line)
    same =
        let early = below in
        no_better_antisym q (placed line w) (extreme q m (better_side q line))
        (no_better_trans q _ (better_side q line (w / 2)) _ (side_bound q line (w / 2) (side_at w)) (extreme_bounds q m (better_side q line) (w / 2) (omega arith)))
        (extreme_least q m (better_side q line) (placed line w) (λ i l.
        better_least q (pair_at line i Left) (pair_at line i Right) (placed line w)
        (unbeaten (2 * i) i Left (omega arith) (even_side (2 * i) (omega arith)) (omega arith))
        (unbeaten (2 * i + 1) i Right (omega arith) (odd_side (2 * i + 1) (λ e. omega arith)) (omega arith))))

-- a stand with the sense's best pair is a right position: at most an axle spacing before the line, and not past its right end
pub stands_position : (line : InfluenceLine) (sense : Sense) {s : Stand} → PairStands line (line.pieces + axle_spacing line) (best_pair line sense) s →
    PositionRight line sense (record { station = station line s.station; side = s.side })
stands_position line sense {s} p =
    let k = pos s.station in
    let d = pos (axle_spacing line) in
    record {
      best = p.attained;
      unbeaten = pair_bound line sense;
      first = ℕ→≤ (omega (arith, subbed k d, up_neg d, dn_neg d));
      last = ℕ→≤ (omega (arith, subbed k d, p.station));
    }
