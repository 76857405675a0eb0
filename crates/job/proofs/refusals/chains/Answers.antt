use mathlib.Core.Path.{refl, sym, ◌∙◌}
use Rattle.model.specs.Refusals.{fault7}
use Rattle.job.proofs.Linked.{none_returns, repeats_alone}
use Rattle.model.proofs.Rulings.{passed, refused}
use Rattle.job.proofs.refusals.chains.Goals as goal

pub returns-in_default : goal.returns-in_default
returns-in_default c =
    let none = sym c.defective.ensures ∙ c.in_default.is in
    let c7 = none_returns _ c.requires.0 c.requires.1 none in
    let c8 = repeats_alone _ c7 ∙ none in
    rw (c7, c8) refl

pub returns-in_err-refuse : goal.returns-in_err-refuse
unfolding fault7
returns-in_err-refuse c = refused 7 c.defective-2.ensures _ c.in_err-refuse.ensures c.from_residual.ensures.1

pub returns : goal.returns
unfolding fault7
returns c =
    let c7 = passed 7 c.defective-2.ensures c.in_ok-refuse.ensures in
    let c8 = repeats_alone _ c7 ∙ sym c.defective.ensures ∙ c.in-Some.is in
    rw (c7, c8) refl
