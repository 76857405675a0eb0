use mathlib.Core.Path.{◌≡◌, sym, ◌∙◌, ap, subst}
use Prim.Native.Nat.{ℕ, ◌+◌, ◌/◌, ◌≤◌}
use native.Mathlib.Omega.{arith}
use lib.Dec.{lit<}
use lib.IntN.{ℤ, pos, ◌-ℤ◌}
use mir.Syntax.{w16, w32, w64}
use mir.Val.{to_z, of_z}
use Rattle.exact.specs.Bounds.{Within}
use Rattle.exact.specs.Questions.{extreme}
use Rattle.exact.specs.declared.Question.{Question}
use Rattle.exact.proofs.Held.{told, any, arg, known, nat, retold, minus}
use Rattle.model.specs.Answered.{PositionRight}
use Rattle.model.specs.Job.{InfluenceLine}
use Rattle.model.specs.Line.{axle_spacing, sought, best_pair}
use Rattle.model.specs.declared.Sense.{Sense}
use Rattle.pair.specs.PairPlaces.{placed, rank_of, stand_of}
use Rattle.pair.specs.declared.Stand.{Stand}
use Rattle.line.specs.Sought.{Found}
use Rattle.line.proofs.Leading.{better_side, PairStands, Leads, leads, stands_position}
use Rattle.line.proofs.sought.sought_at.Goals as goal

-- a line on which area and rank were found: the stand of the rank, by what is told of it, has the sense's best pair
module _ (line : InfluenceLine) (sense : Sense) (area rank : ℤ) (found : Found line sense area rank) where
  abbrev last : ℕ
  last = line.pieces + axle_spacing line

  lead : Leads (sought sense) line last
  lead = leads (sought sense) line last (omega (arith, found.few)) found.near

  stands : (k : Question) (passed : ℤ) (stand : Stand) → k ≡ sought sense → passed ≡ rank →
      ((v : ℤ) (p : ℕ) → Within 10000 v → p ≤ 4095 → passed ≡ rank_of k v p → stand ≡ stand_of v p) →
      PairStands line last (best_pair line sense) stand
  unfolding best_pair
  stands k passed stand e f told_of =
      let p = lead.place in
      let is : passed ≡ rank_of k (placed line p) p = f ∙ found.rank ∙ lead.is ∙ ap (λ (k : Question). rank_of k (placed line p) p) (sym e) in
      subst (PairStands line last (extreme (sought sense) last (better_side (sought sense) line))) (sym (told_of (placed line p) p (found.near p) (omega (arith, found.few, lead.early)) is)) lead.stands

pub returns : goal.returns
returns c line same found =
    let a = c.args in
    let stand = c.stand_of-stand.result in
    let f = stands line a.sense a.area a.rank found c.question.result (to_z w32 (of_z w32 a.rank)) stand c.question.ensures (any c.ranges.rank).is c.stand_of-stand.ensures.0 in
    let right = nat w64 32767 c.stand_of-stand.ensures.1 (omega (arith, c.stand_of-stand.ensures.1)) in
    let apart = nat w64 50 c.spacing.ensures.1 (omega (arith, c.spacing.ensures.1)) in
    -- the left axle's station
    let left = retold (minus right apart (lit< tt)) (ap (λ (k : ℕ). pos stand.station -ℤ pos k) (c.spacing.ensures.0 ∙ ap (λ (h : ℕ). 50 / h) (sym same))) in
    let area = retold (arg c.ranges.area c.requires.1) found.area in
    let pair = retold (known w16 (subst (Within 10000) (sym f.value) f.near) (lit< tt)) f.value in
    record {
      area = area.is;
      pair = pair.is;
      position = subst (λ (z : ℤ). PositionRight line a.sense (record { station = z; side = stand.side })) (sym left.is) (stands_position line a.sense f);
      near = record { area = (told area).1; pair = (told pair).1 };
    }
