use mathlib.Core.Path.{◌∙◌, ap, ap₂}
use lib.IntN.{ℤ}
use mir.Syntax.{w32}
use Rattle.exact.specs.Questions.{better}
use Rattle.exact.proofs.Extremes.{better_number}
use Rattle.exact.proofs.Held.{any, back, got, retold}
use Rattle.pair.specs.PairPlaces.{rank_of}
use Rattle.pair.proofs.improved.Goals as goal

pub returns : goal.returns
returns c =
    let a = c.args in
    let next = retold (got w32 c.rank-next.type_inv c.rank-next.ensures) (ap (λ (v : ℤ). rank_of a.q v a.place) (any c.ranges.v).is) in
    back w32 c.better.type_inv (c.better.ensures ∙ better_number a.q _ _ ∙ ap₂ (better a.q) (any c.ranges.best).is next.is)
