use mathlib.Core.Path.{refl}
use mir.Syntax.{w64}
use mir.Val.{SFits}
use borrow.Author.Rules.{rules}
use Rattle.numbers.proofs.Stores.{and_then, signed}
use Rattle.numbers.proofs.Reading.{in_front}
use Rattle.reports.proofs.write.Goals as goal

pub returns : goal.returns
returns c =
    let r = c.args.r in
    let g : SFits w64 r.greatest.value = search rules in
    let l : SFits w64 r.least.value = search rules in
    let d : SFits w64 r.difference = search rules in
    let values = and_then (and_then (signed g c.put_signed.ensures) (signed l c.put_signed-2.ensures)) (signed d c.put_signed-3.ensures) in
    in_front (and_then (and_then values c.put_stand.ensures) c.put_stand-2.ensures) refl refl c.requires (search rules)
