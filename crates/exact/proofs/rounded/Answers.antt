use mathlib.Core.Path.{◌≡◌, sym, ◌∙◌, ap, subst}
use lib.IntN.{ℤ}
use mir.Syntax.{w64}
use Rattle.exact.specs.Rounding.{ceil_div, floor_div}
use Rattle.exact.specs.Questions.{rounded}
use Rattle.exact.specs.declared.Question.{Question}
use Rattle.exact.specs.declared.Question.TheVariants.{Greatest, Least}
use Rattle.exact.proofs.Held.{any, back}
use Rattle.exact.proofs.rounded.Goals as goal

pub returns-in-Greatest : goal.returns-in-Greatest
returns-in-Greatest c =
    let e : c.args.q ≡ Greatest = c.in-Greatest.is in
    back w64 c.ceil_div.type_inv (subst (λ (q : Question). c.ceil_div.result ≡ rounded q c.args.x c.args.d) (sym e)
    (c.ceil_div.ensures ∙ ap (λ (z : ℤ). ceil_div z c.args.d) (any c.ranges.x).is))

pub returns-in-Least : goal.returns-in-Least
returns-in-Least c =
    let e : c.args.q ≡ Least = c.in-Least.is in
    back w64 c.floor_div.type_inv (subst (λ (q : Question). c.floor_div.result ≡ rounded q c.args.x c.args.d) (sym e)
    (c.floor_div.ensures ∙ ap (λ (z : ℤ). floor_div z c.args.d) (any c.ranges.x).is))
