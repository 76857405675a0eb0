use mathlib.Core.Path.{sym, ◌∙◌, ap₂, subst}
use mathlib.Core.List.{List}
use Prim.Native.Nat.{ℕ, ◌+◌, ◌*◌, ◌≤◌}
use native.Mathlib.Omega.{arith}
use lib.Dec.{lit<}
use lib.IntN.{◌-ℤ◌}
use mir.Syntax.{w64}
use Rattle.exact.specs.Questions.{for_question}
use Rattle.exact.specs.declared.ByQuestion.{ByQuestion}
use Rattle.exact.specs.declared.Question.{Question}
use Rattle.exact.specs.declared.Question.TheVariants.{Greatest, Least}
use Rattle.exact.proofs.Extremes.{by_question}
use Rattle.exact.proofs.Held.{known, told, back}
use Rattle.model.specs.Decode.{influence_line}
use Rattle.model.specs.declared.{Axle.Axle, Mode.Mode, Way.Way, Way.TheVariants.AsGiven, Way.TheVariants.Turned}
use Rattle.stands.specs.TrainFits.{Ratable}
use Rattle.stands.specs.declared.{Spaced.Spaced, Best.Best}
use Rattle.stands.specs.Runs.{SpacedRight, SpacedFits, BestOf, at_place}
use Rattle.stands.proofs.Worst.{Way_found, way_found, worst_right, worst_near}
use Rattle.stands.proofs.rating.Goals as goal

module _ (mode : Mode) (s : List ℕ) (h n : ℕ) (t : List Axle) (able : Ratable s h n t) where
  -- the best place one way round, the train's length being r's
  found : (way : Way) (r p : Spaced) (b : ByQuestion Best) → SpacedRight AsGiven h t r → SpacedRight way h t p → SpacedFits p → ((h : ℕ) (t : List Axle) (way : Way) → SpacedRight way h t p → (q : Question) → BestOf q (at_place mode q (influence_line s h n) t way) (2 * (n + p.length)) (for_question q b)) → (q : Question) → Way_found mode q s h n t able way r.length (for_question q b)
  found way r p b first right fits best q =
      subst (λ (k : ℕ). Way_found mode q s h n t able way k (for_question q b)) (right.reach ∙ sym first.reach)
      (way_found mode q s h n t able way p (for_question q b) right fits (best h t way right q))

  -- its places are few
  few : (q : Question) (way : Way) (l : ℕ) (b : ByQuestion Best) → l ≤ 500 → Way_found mode q s h n t able way l (for_question q b) → (for_question q b).place ≤ 4000
  few q way l b short w = let m = able.line.few in omega (arith, w.found.late)

pub of_both-greatest-requires : goal.of_both-greatest-requires
of_both-greatest-requires c =
    let a = c.args in
    let t = a.train.now in
    let able = c.requires in
    let r = c.in_pieces-given in
    let given = found a.mode a.line.now a.h a.n t able AsGiven r.result r.result c.one_way-as_given.result r.ensures.0 r.ensures.0 r.ensures.1 c.one_way-as_given.ensures in
    let turned = found a.mode a.line.now a.h a.n t able Turned r.result c.in_pieces-turned.result c.one_way-the_other.result r.ensures.0 c.in_pieces-turned.ensures.0 c.in_pieces-turned.ensures.1 c.one_way-the_other.ensures in
    let short = r.ensures.1.short in
    (few a.mode a.line.now a.h a.n t able Greatest AsGiven r.result.length c.one_way-as_given.result short (given Greatest), few a.mode a.line.now a.h a.n t able Greatest Turned r.result.length c.one_way-the_other.result short (turned Greatest), short)

pub of_both-least-requires : goal.of_both-least-requires
of_both-least-requires c =
    let a = c.args in
    let t = a.train.now in
    let able = c.requires in
    let r = c.in_pieces-given in
    let given = found a.mode a.line.now a.h a.n t able AsGiven r.result r.result c.one_way-as_given.result r.ensures.0 r.ensures.0 r.ensures.1 c.one_way-as_given.ensures in
    let turned = found a.mode a.line.now a.h a.n t able Turned r.result c.in_pieces-turned.result c.one_way-the_other.result r.ensures.0 c.in_pieces-turned.ensures.0 c.in_pieces-turned.ensures.1 c.one_way-the_other.ensures in
    let short = r.ensures.1.short in
    (few a.mode a.line.now a.h a.n t able Least AsGiven r.result.length c.one_way-as_given.result short (given Least), few a.mode a.line.now a.h a.n t able Least Turned r.result.length c.one_way-the_other.result short (turned Least), short)

pub difference-requires : goal.difference-requires
difference-requires c =
    let a = c.args in
    let t = a.train.now in
    let able = c.requires in
    let r = c.in_pieces-given in
    let given = found a.mode a.line.now a.h a.n t able AsGiven r.result r.result c.one_way-as_given.result r.ensures.0 r.ensures.0 r.ensures.1 c.one_way-as_given.ensures in
    let turned = found a.mode a.line.now a.h a.n t able Turned r.result c.in_pieces-turned.result c.one_way-the_other.result r.ensures.0 c.in_pieces-turned.ensures.0 c.in_pieces-turned.ensures.1 c.one_way-the_other.ensures in
    let l = r.result.length in
    let most = known w64 (worst_near a.mode Greatest a.line.now a.h a.n t able l _ _ _ (given Greatest) (turned Greatest) c.of_both-greatest.ensures) (lit< tt) in
    let least = known w64 (worst_near a.mode Least a.line.now a.h a.n t able l _ _ _ (given Least) (turned Least) c.of_both-least.ensures) (lit< tt) in
    ((told most).1, (told least).1)

-- both extremes, right and within reach
pub returns : goal.returns
returns c =
    let a = c.args in
    let t = a.train.now in
    let able = c.requires in
    let r = c.in_pieces-given in
    let l = r.result.length in
    let given = found a.mode a.line.now a.h a.n t able AsGiven r.result r.result c.one_way-as_given.result r.ensures.0 r.ensures.0 r.ensures.1 c.one_way-as_given.ensures in
    let turned = found a.mode a.line.now a.h a.n t able Turned r.result c.in_pieces-turned.result c.one_way-the_other.result r.ensures.0 c.in_pieces-turned.ensures.0 c.in_pieces-turned.ensures.1 c.one_way-the_other.ensures in
    let most = known w64 (worst_near a.mode Greatest a.line.now a.h a.n t able l _ _ _ (given Greatest) (turned Greatest) c.of_both-greatest.ensures) (lit< tt) in
    let least = known w64 (worst_near a.mode Least a.line.now a.h a.n t able l _ _ _ (given Least) (turned Least) c.of_both-least.ensures) (lit< tt) in
    record {
      extremes = by_question _ (worst_right a.mode Greatest a.line.now a.h a.n t able l _ _ _ (given Greatest) (turned Greatest) c.of_both-greatest.ensures) (worst_right a.mode Least a.line.now a.h a.n t able l _ _ _ (given Least) (turned Least) c.of_both-least.ensures);
      difference = back w64 c.difference.type_inv c.difference.ensures ∙ ap₂ ◌-ℤ◌ most.is least.is;
    }
