use mathlib.Core.Path.{sym, ap, ◌∙◌}
use mathlib.Core.List.{List, ◌++◌}
use Prim.Native.Nat.{ℕ}
use native.Mathlib.Omega.{arith}
use native.Mathlib.Numerals.{add-one}
use lib.ListN.{get_or, set, drop, drop_of_length-le}
use lib.Seq.{sets, sets-eq, drop-cons}
use Rattle.std.proofs.lemmas.List.{append-nil}
use Rattle.buffer.proofs.copy.Goals as goal

pub loop-i-init : goal.loop-i-init
loop-i-init c =
    let from = c.args.from.now in
    let to = c.args.to.now in
    sets-eq from to 0 (omega arith) ∙ ap (λ (l : List ℕ). from ++ l) (drop_of_length-le to (omega arith)) ∙ append-nil from

pub loop-i-preserved : goal.loop-i-preserved
loop-i-preserved c =
    let i = c.loop-i.i in
    let to = c.loop-i.to in
    let from = c.args.from.now in
    ap (λ (k : ℕ). sets (set to i (get_or from i 0)) k (drop k from)) (add-one i)
    ∙ sym (ap (sets to i) (drop-cons from i 0 (omega arith)))
    ∙ c.loop-i.invariant

pub returns : goal.returns
returns c =
    let i = c.loop-i.i in
    let from = c.args.from.now in
    sym (ap (sets c.loop-i.to i) (drop_of_length-le from {i = i} (omega arith))) ∙ c.loop-i.invariant
