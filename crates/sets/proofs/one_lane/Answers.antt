use mathlib.Core.Path.{sym, ◌∙◌, ap, subst}
use lib.Dec.{lit<, lit≤}
use lib.IntN.{ℤ, pos, ◌*ℤ◌}
use mir.Syntax.{w64}
use Rattle.exact.specs.Questions.{NoBetter}
use Rattle.exact.proofs.Bounds.{within_le}
use Rattle.exact.proofs.Held.{arg, lit, told, times, eq_yes}
use Rattle.sets.proofs.Rural.{one_right}
use Rattle.sets.proofs.one_lane.Goals as goal

pub returns : goal.returns
returns c q hn ho is some =
    let x = times (lit w64 17 (lit< tt)) (arg c.ranges.value c.requires) (lit< tt) in
    one_right q hn ho _ (subst (NoBetter q (pos 0)) (sym is) some) (x.is ∙ ap (λ (z : ℤ). pos 17 *ℤ z) (sym is)) (within_le (told x).1 (lit≤ tt))

pub returns-then-value-eq0 : goal.returns-then-value-eq0
returns-then-value-eq0 c q hn ho is some = c.no_lane.ensures.loading_right_2 q hn ho (is ∙ eq_yes (arg c.ranges.value c.requires) (lit w64 0 (lit< tt)) c.if-value-eq0.true)
