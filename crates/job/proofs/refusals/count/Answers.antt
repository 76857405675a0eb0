use mathlib.Core.Path.{◌≡◌, refl, sym, ◌∙◌, ap}
use Rattle.std.specs.Prelude.{Some}
use mathlib.Core.List.{List}
use Rattle.model.specs.declared.Header.{Header}
use Prim.Native.Nat.{ℕ, ◌/◌}
use lib.ListN.{length}
use borrow.Author.Tests.{eq-eqb, ne_eqb}
use Rattle.model.specs.Format.{header_of, words_due}
use Rattle.model.specs.Refusals.{fault3}
use Rattle.job.proofs.refusals.count.Goals as goal

-- the count due, by the job's own words
due : (s : List ℕ) {r : ℕ} {head : Header} → r ≡ words_due head → head ≡ header_of s → r ≡ words_due (header_of s)
due s e own = e ∙ ap words_due own

pub returns-then-s-due : goal.returns-then-s-due
unfolding fault3
returns-then-s-due c = let b = c.args.s.now in rw (eq-eqb (length b / 4) (words_due (header_of b)) (c.if-s-due.true ∙ due c.args.s.now c.words_due-due.ensures.0 c.requires.0)) refl

pub returns-else-s-due : goal.returns-else-s-due
unfolding fault3
returns-else-s-due c =
    let b = c.args.s.now in
    rw (ne_eqb (length b / 4) (words_due (header_of b)) (λ e. c.if-s-due.false (e ∙ sym (due c.args.s.now c.words_due-due.ensures.0 c.requires.0)))) (ap Some (due c.args.s.now c.words_due-due.ensures.0 c.requires.0))
