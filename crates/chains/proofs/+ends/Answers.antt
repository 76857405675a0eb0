use mathlib.Core.Path.{sym, ◌∙◌, ap}
use Prim.Native.Nat.{ℕ, ◌-◌}
use lib.Dec.{eqb}
use borrow.Author.Tests.{eq-eqb, ne_eqb}
use Rattle.model.specs.Chains.{walk}
use Rattle.chains.proofs.Walks.{walk_next, walk_none, walk_start}
use Rattle.chains.proofs.+ends.Goals as goal

pub returns-then-c-eq0 : goal.returns-then-c-eq0
returns-then-c-eq0 t c = let a = c.args in sym (eq-eqb _ _ (walk_none a.records.now a.c a.left c.if-c-eq0.true))

pub returns-then-left-eq0 : goal.returns-then-left-eq0
returns-then-left-eq0 t c = let a = c.args in sym (ne_eqb _ _ (λ e. c.if-c-eq0.false (sym (walk_start a.records.now a.c a.left c.if-left-eq0.true) ∙ e)))

pub returns : goal.returns
returns t c =
    let a = c.args in
    c.ends.ensures ∙ ap (λ (k : ℕ). eqb (walk a.records.now k (a.left - 1)) 0) c.next.ensures.0
    ∙ ap (λ (k : ℕ). eqb k 0) (walk_next a.records.now a.c a.left c.if-c-eq0.false c.if-left-eq0.false)
