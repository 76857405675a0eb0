-- No stand of a train on k-ths of a piece beats the best at the stations, in either mode. Without its relieving axles a train counts all axles on the line's kept ordinates.
use Rattle.std.specs.Prelude.{if◌then◌else◌}
use mathlib.Core.Path.{◌≡◌, refl, sym, ◌∙◌, ap, ap₂, subst}
use mathlib.Core.Logic.{◌⊎◌, inl, inr}
use mathlib.Core.List.{List}
use Prim.Native.Nat.{ℕ, zero, suc, ◌+◌, ◌*◌, ◌/◌, ◌%◌, ◌≤◌, ◌<◌}
use native.Mathlib.Nat.{mod-lt}
use native.Mathlib.Omega.{arith}
use lib.IntN.{ℤ, pos, negsuc, ◌+ℤ◌, ◌-ℤ◌, ◌*ℤ◌}
use lib.ListN.{length}
use lib.Dec.{ltb}
use borrow.Author.Tests.{ltb-true}
use Rattle.exact.specs.Choice.{minℤ, maxℤ}
use Rattle.exact.specs.Questions.{better, NoBetter}
use Rattle.exact.specs.declared.Question.{Question}
use Rattle.exact.specs.declared.Question.TheVariants.{Greatest, Least}
use Rattle.exact.proofs.Exact.{pos_mono, ◌⊕◌, ◌⊗◌, ◌⊝◌, lit, ◌≐◌, ◌≼◌, ◌⇒◌, solve, linear}
use Rattle.exact.proofs.Order.{max_is_left, max_is_right, min_is_left, min_is_right}
use Rattle.exact.proofs.Bridge.{by_test}
use Rattle.exact.proofs.Extremes.{no_better_trans, no_better_add, no_better_mul, no_better_scale, better_left, better_right, extreme_bounds}
use Rattle.exact.proofs.Ranges.{sum_cong}
use Rattle.exact.proofs.Rounding.{div_mono}
use Rattle.model.specs.Job.{Piece, InfluenceLine}
use Rattle.model.specs.Line.{along, ordinate}
use Rattle.model.specs.Trains.{axle_at, train_length, distance, counted, train_effect, train_station, best_one_way, best_train}
use Rattle.model.specs.declared.{Side.Side, Side.TheVariants.Left, Side.TheVariants.Right, Axle.Axle, Way.Way, Way.TheVariants.AsGiven, Way.TheVariants.Turned, Mode.Mode, Mode.TheVariants.AllAxles, Mode.TheVariants.NoRelief}
use Rattle.model.proofs.LineLimits.{Sided, above, below, OneSigned}
use Rattle.model.proofs.Axles.{group, group_bound}

-- ---- what is kept of an ordinate
-- one that 0 does not beat is kept; one that does not beat 0 is not
pub kept_whole : (q : Question) (y : ℤ) → NoBetter q (pos 0) y → better q y (pos 0) ≡ y
kept_whole Greatest y h = max_is_left h
kept_whole Least y h = min_is_left h

pub kept_none : (q : Question) (y : ℤ) → NoBetter q y (pos 0) → better q y (pos 0) ≡ pos 0
kept_none Greatest y h = max_is_right h
kept_none Least y h = min_is_right h

pub counted_zero : (mode : Mode) (q : Question) → counted mode q (pos 0) ≡ pos 0
unfolding maxℤ minℤ
counted_zero AllAxles q = refl
counted_zero NoRelief Greatest = refl
counted_zero NoRelief Least = refl

-- a piece of one sign is for a question all of worth or all without
worth : (q : Question) (p : Piece) → Sided p → (NoBetter q (pos 0) p.left × NoBetter q (pos 0) p.right) ⊎ (NoBetter q p.left (pos 0) × NoBetter q p.right (pos 0))
worth Greatest p (above l r) = inl (l, r)
worth Greatest p (below l r) = inr (l, r)
worth Least p (above l r) = inr (l, r)
worth Least p (below l r) = inl (l, r)

-- a piece's and a line's kept ordinates
abbrev kept_piece : Mode → Question → Piece → Piece
kept_piece mode q p = record { left = counted mode q p.left; right = counted mode q p.right }

abbrev kept : Mode → Question → InfluenceLine → InfluenceLine
kept mode q line = record { h = line.h; pieces = line.pieces; piece = λ i. kept_piece mode q (line.piece i) }

-- along a piece
counted_along : (mode : Mode) (q : Question) (k r : ℕ) (p : Piece) → r ≤ k → Sided p → counted mode q (along k r p) ≡ along k r (kept_piece mode q p)
unfolding along
counted_along AllAxles q k r p l sided = refl
counted_along NoRelief q k r p l sided = elim (worth q p sided) [
  | inl w ↦
      kept_whole q (along k r p) (weighed (pos 0) (pos 0) p.left p.right w.0 w.1 (solve 2 (λ k r. (k ⊝ r) ⊗ lit 0 ⊕ r ⊗ lit 0 ≐ lit 0) tt (pos k) (pos r)) refl)
      ∙ sym (ap₂ (λ (x y : ℤ). (pos k -ℤ pos r) *ℤ x +ℤ pos r *ℤ y) (kept_whole q p.left w.0) (kept_whole q p.right w.1))
  | inr w ↦
      kept_none q (along k r p) (weighed p.left p.right (pos 0) (pos 0) w.0 w.1 refl (solve 2 (λ k r. (k ⊝ r) ⊗ lit 0 ⊕ r ⊗ lit 0 ≐ lit 0) tt (pos k) (pos r)))
      ∙ sym (ap₂ (λ (x y : ℤ). (pos k -ℤ pos r) *ℤ x +ℤ pos r *ℤ y) (kept_none q p.left w.0) (kept_none q p.right w.1) ∙ solve 2 (λ k r. (k ⊝ r) ⊗ lit 0 ⊕ r ⊗ lit 0 ≐ lit 0) tt (pos k) (pos r))
]
  where
    weighed : (x y v w : ℤ) → NoBetter q x v → NoBetter q y w → {a b : ℤ} → (pos k -ℤ pos r) *ℤ x +ℤ pos r *ℤ y ≡ a → (pos k -ℤ pos r) *ℤ v +ℤ pos r *ℤ w ≡ b → NoBetter q a b
    weighed x y v w h g {a} {b} e f =
        subst (λ (z : ℤ). NoBetter q z b) e (subst (NoBetter q ((pos k -ℤ pos r) *ℤ x +ℤ pos r *ℤ y)) f
        (no_better_add q ((pos k -ℤ pos r) *ℤ x) ((pos k -ℤ pos r) *ℤ v) (pos r *ℤ y) (pos r *ℤ w) (no_better_mul q (pos k -ℤ pos r) x v (linear 2 (λ r k. r ≼ k ⇒ lit 0 ≼ k ⊝ r) (pos r) (pos k) (omega arith) (pos_mono r k l)) h) (no_better_scale q r y w g)))

-- what an axle counts is the kept line's ordinate
counted_ordinate : (mode : Mode) (q : Question) (line : InfluenceLine) (k : ℕ) (z : ℤ) (side : Side) → OneSigned line → zero < k → counted mode q (ordinate line k z side) ≡ ordinate (kept mode q line) k z side
unfolding ordinate
counted_ordinate mode q line k (negsuc z) Left signed h = counted_zero mode q
counted_ordinate mode q line k (negsuc z) Right signed h = counted_zero mode q
counted_ordinate mode q line k (pos zero) Left signed h = counted_zero mode q
counted_ordinate mode q line k (pos (suc y)) Left signed h =
    let l = mod-lt y h in
    by_test (ltb (y / k) line.pieces) (λ b. counted mode q (if b then along k (suc (y % k)) (line.piece (y / k)) else pos 0) ≡ (if b then along k (suc (y % k)) (kept_piece mode q (line.piece (y / k))) else pos 0))
    (λ t. counted_along mode q k (suc (y % k)) (line.piece (y / k)) (omega arith) (signed (y / k) (ltb-true (y / k) line.pieces t)))
    (λ t. counted_zero mode q)
counted_ordinate mode q line k (pos z) Right signed h =
    let l = mod-lt z h in
    by_test (ltb (z / k) line.pieces) (λ b. counted mode q (if b then along k (z % k) (line.piece (z / k)) else pos 0) ≡ (if b then along k (z % k) (kept_piece mode q (line.piece (z / k))) else pos 0))
    (λ t. counted_along mode q k (z % k) (line.piece (z / k)) (omega arith) (signed (z / k) (ltb-true (z / k) line.pieces t)))
    (λ t. counted_zero mode q)

-- ---- the train
module _ (mode : Mode) (q : Question) (line : InfluenceLine) (signed : OneSigned line) (t : List Axle) where
  -- as a group of axles on the kept line
  abbrev axles : Way → (k : ℕ) (z : ℤ) (side : Side) → ℤ
  axles way = group (kept mode q line) (length t) (λ i. pos (axle_at t i).load) (λ i. distance way t i / line.h)

  train_group : (way : Way) (k : ℕ) (z : ℤ) (side : Side) → zero < k → train_effect mode q line t k way z side ≡ axles way k z side
  unfolding train_effect
  train_group way k z side h =
      sum_cong (length t) _ _ (λ i l. ap (λ (x : ℤ). pos (axle_at t i).load *ℤ x) (counted_ordinate mode q line k (z +ℤ pos (k * (distance way t i / line.h))) side signed h))

  -- a station's effect one way round
  station_effect : (way : Way) (s : ℕ) (side : Side) → s ≤ line.pieces + train_length t / line.h → NoBetter q (train_effect mode q line t 1 way (train_station line t s) side) (best_train mode q line t)
  unfolding best_train best_one_way
  station_effect way s side l =
      let f : ℕ → ℤ = λ s. better q (train_effect mode q line t 1 way (train_station line t s) Left) (train_effect mode q line t 1 way (train_station line t s) Right) in
      no_better_trans q _ (f s) _ (one side) (no_better_trans q (f s) (best_one_way mode q line t way) _ (extreme_bounds q (line.pieces + train_length t / line.h) f s l) (either way))
    where
      one : (side : Side) → NoBetter q (train_effect mode q line t 1 way (train_station line t s) side) (better q (train_effect mode q line t 1 way (train_station line t s) Left) (train_effect mode q line t 1 way (train_station line t s) Right))
      one Left = better_left q _ _
      one Right = better_right q _ _

      either : (way : Way) → NoBetter q (best_one_way mode q line t way) (best_train mode q line t)
      either AsGiven = better_left q _ _
      either Turned = better_right q _ _

  -- no axle is farther from the leftmost than the train is long
  reach : zero < line.h → ((i : ℕ) → i < length t → (axle_at t i).at ≤ train_length t) → (way : Way) (i : ℕ) → i < length t → distance way t i / line.h ≤ train_length t / line.h
  reach long within AsGiven i l = div_mono long (within i l)
  reach long within Turned i l = div_mono long (omega arith)

  -- no stand beats it: either way round, on k-ths of a piece for every whole k, on either side, on the line or off
  pub train_bound : zero < line.h → ((i : ℕ) → i < length t → (axle_at t i).at ≤ train_length t) → (k : ℕ) (way : Way) (z : ℤ) (side : Side) → zero < k → NoBetter q (train_effect mode q line t k way z side) (pos k *ℤ best_train mode q line t)
  train_bound long within k way z side h =
      subst (λ (x : ℤ). NoBetter q x (pos k *ℤ best_train mode q line t)) (sym (train_group way k z side h))
      (group_bound (kept mode q line) (length t) (λ i. pos (axle_at t i).load) (λ i. distance way t i / line.h) (train_length t / line.h) (reach long within way) q (best_train mode q line t)
      (λ s l side. subst (λ (x : ℤ). NoBetter q x (best_train mode q line t)) (train_group way 1 (train_station line t s) side (omega arith)) (station_effect way s side l)) k z side h)
