use mathlib.Core.Path.{◌≡◌}
use Prim.Native.Nat.{◌+◌, ◌-◌, ◌*◌, ◌/◌, min}
use native.Mathlib.Omega.{arith}
use lib.IntN.{ℤ, pos}
use mir.Syntax.{w32}
use mir.Val.{to_z, of_z}
use Rattle.exact.specs.Questions.{for_question}
use Rattle.exact.specs.declared.Question.{Question}
use Rattle.exact.specs.declared.Question.TheVariants.{Greatest, Least}
use Rattle.exact.proofs.Held.{back}
use Rattle.model.specs.Decode.{influence_line}
use Rattle.pair.specs.PairPlaces.{placed, rank_of, RanksRight}
use Rattle.pair.proofs.Places.{placed_ahead, placed_both, placed_behind, placed_start, placed_gap, placed_end, ranks_none, ranks_skip}
use Rattle.pair.proofs.best_ranks.Goals as goal

-- both ranks of nothing at place 0
by_nothing : {g l : ℤ} → g ≡ rank_of Greatest (pos 0) 0 → l ≡ rank_of Least (pos 0) 0 → (q : Question) → for_question q (record { greatest = g; least = l }) ≡ rank_of q (pos 0) 0
by_nothing e f Greatest = e
by_nothing e f Least = f

-- the left axle is before the line, then both are on it, then the right one is past it
pub returns : goal.returns
returns c =
    let s = c.args.line.now in
    let h = c.args.h in
    let n = c.args.n in
    let apart = c.places_apart-apart.result in
    let edge = c.min-edge.result in
    let f = placed (influence_line s h n) in
    let spaced : apart ≡ 2 * (50 / h) = c.places_apart-apart.ensures.0 in
    let edged : edge ≡ min apart (2 * n) = c.min-edge.ensures in
    let start : f 0 ≡ pos 0 = placed_start s h n in
    let none : RanksRight f 0 (record { greatest = to_z w32 (of_z w32 c.rank.result); least = to_z w32 (of_z w32 c.rank-2.result) }) = ranks_none f start (by_nothing (back w32 c.rank.type_inv c.rank.ensures.0) (back w32 c.rank-2.type_inv c.rank-2.ensures.0)) in
    let ahead = c.stretch-ahead.ensures f (λ i a b. placed_ahead s h n (i + 1) i (omega arith) (omega (arith, edged)) (omega (arith, edged, spaced))) none in
    let both = c.stretch-both.ensures f (λ i a b. placed_both s h n (i + 1) i (i - apart) (omega arith) (omega (arith, edged, spaced)) (omega arith)) ahead in
    let behind = c.stretch.ensures f (λ i a b. placed_behind s h n (i + 1) (i - apart) (omega (arith, edged, spaced)) (omega (arith, edged)) (omega (arith, edged, spaced))) (ranks_skip f (2 * n) (2 * n - edge + apart) (omega (arith, edged)) start (λ p a b. placed_gap s h n p a (omega (arith, edged, spaced))) both) in
    ranks_skip f (2 * n + apart) (2 * (n + 50 / h) + 1) (omega (arith, spaced)) start (λ p a b. placed_end s h n p (omega (arith, spaced))) behind
