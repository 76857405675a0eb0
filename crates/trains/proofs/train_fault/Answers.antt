use borrow.Author.Rules.{rules}
use mathlib.Core.Path.{◌≡◌, sym, ◌∙◌, ap}
use native.Mathlib.Omega.{arith}
use lib.ListN.{length, take, length-take}
use Rattle.model.specs.Trains.{train_fault}
use Rattle.model.proofs.TrainLimits.{some_axles}
use Rattle.trains.proofs.Gathering.{train_few, none_given, too_many}
use Rattle.trains.proofs.train_fault.Goals as goal

pub returns-in-1-to-12 : goal.returns-in-1-to-12
returns-in-1-to-12 c =
    let h = c.args.h in
    let g = c.args.g in
    let t = take g.count g.axles in
    let full : length g.axles ≡ 12 = search rules in
    let own : length t ≡ g.count = omega (arith, length-take g.count g.axles) in
    c.first_fault.ensures ∙ sym (some_axles h t (omega arith) (omega arith)) ∙ ap (train_fault h) (sym (train_few g (omega arith)))

pub returns-in-0 : goal.returns-in-0
returns-in-0 c = none_given c.args.h c.args.g (omega arith)

pub returns-in_default : goal.returns-in_default
returns-in_default c = too_many c.args.h c.args.g (omega arith)
