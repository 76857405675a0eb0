use mathlib.Core.Path.{◌≡◌, sym, ◌∙◌, ap, ap₂, subst}
use Prim.Native.Nat.{ℕ}
use lib.Dec.{lit<}
use lib.IntN.{ℤ}
use mir.Syntax.{w32, w64}
use Rattle.exact.specs.Bounds.{Within}
use Rattle.exact.specs.Questions.{for_question, better_by, other}
use Rattle.exact.specs.declared.Question.{Question}
use Rattle.exact.proofs.Held.{Kept, known, retold, cast, times, times! }
use Rattle.magnitudes.specs.Magnitudes.{transverse_most, ho_line_most}
use Rattle.model.specs.declared.Sense.{Sense}
use Rattle.model.specs.declared.Sense.TheVariants.{Raising, Lowering}
use Rattle.centres.specs.Spans.{Span, SpanFits}
use Rattle.centres.specs.declared.Centre.{Centre}
use Rattle.lanes.specs.declared.entries.Chosen.{Chosen}
use Rattle.lanes.proofs.entries.choose.Goals as goal

-- an ordinate as a call returned it
abbrev ordinate : (q : Question) {x : Centre} {span : Span} → x ≡ for_question q span → SpanFits span → Kept w64 transverse_most (for_question q span).ordinate
ordinate q {x} e h =
    (_, cast (retold (known w32 {z = x.ordinate} (subst (λ (y : Centre). Within transverse_most y.ordinate) (sym e) (h.near q)) (lit< tt)) (ap (λ (y : Centre). y.ordinate) e)) w64 (lit< tt))

-- a line effect as it is held
abbrev held : {z : ℤ} → Within ho_line_most z → Kept w64 ho_line_most z
held near = (_, known w64 near (lit< tt))

-- an element by its effect and its centre
abbrev made : Sense → ℤ → ℕ → Chosen
made sense v at = record { value = v; sense = sense; centre = at }

pub overflow_mul-raising : goal.overflow_mul-raising
overflow_mul-raising c = times! (ordinate c.args.q c.of-r.ensures c.requires.0).1 (held c.requires.1.raising).1 (lit< tt)

pub overflow_mul-lowering : goal.overflow_mul-lowering
overflow_mul-lowering c = times! (ordinate c.other.result c.of-l.ensures c.requires.0).1 (held c.requires.1.lowering).1 (lit< tt)

pub returns : goal.returns
returns c =
    let a = c.args in
    let r = c.of-r.ensures in
    let l = c.of-l.ensures ∙ ap (λ (q : Question). for_question q a.span) c.other.ensures in
    let up = times (ordinate a.q r c.requires.0).1 (held c.requires.1.raising).1 (lit< tt) in
    let down = times (ordinate (other a.q) l c.requires.0).1 (held c.requires.1.lowering).1 (lit< tt) in
    c.better.ensures
    ∙ ap₂ (better_by (λ (x : Chosen). x.value) a.q) (ap₂ (made Raising) up.is (ap (λ (x : Centre). x.at) r)) (ap₂ (made Lowering) down.is (ap (λ (x : Centre). x.at) l))
