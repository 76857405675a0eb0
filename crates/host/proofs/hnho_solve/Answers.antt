use mathlib.Core.Path.{◌≡◌, refl, ◌∙◌, subst}
use mathlib.Core.List.{List}
use Prim.Native.Nat.{ℕ}
use native.Mathlib.Omega.{arith}
use Rattle.model.specs.declared.Account.{Account}
use Rattle.numbers.specs.NumberBytes.{ReadBack}
use Rattle.encode.specs.Encoding.{account_numbers}
use Rattle.host.specs.Hosted.{short, answered}
use Rattle.host.proofs.Counts.{counts_fit}
use Rattle.host.proofs.hnho_solve.Goals as goal

-- the numbers of the account that was written are those of the answer's
handed : {a b : Account} (bytes : List ℕ) → a ≡ b → ReadBack bytes (account_numbers a) → ReadBack bytes (account_numbers b)
handed bytes e = subst (λ (x : Account). ReadBack bytes (account_numbers x)) e

pub returns-then-account-lt-SIZE : goal.returns-then-account-lt-SIZE
returns-then-account-lt-SIZE c = short (omega (arith, c.if-account-lt-SIZE.true)) refl refl c.clear.ensures

pub write-requires : goal.write-requires
write-requires c = record { account_size_in_bounds = omega arith; counts_fit = rw c.told.ensures (counts_fit c.solve-answer.ensures) }

pub returns-in-Ok : goal.returns-in-Ok
returns-in-Ok c =
    let a = c.solve-answer in
    answered (omega (arith, c.if-account-lt-SIZE.false)) a.result a.ensures (rw c.in-Ok.is refl) (rw (← c.told.ensures) c.write.ensures.out_after) (handed _ c.told.ensures c.write.ensures.read_back)

pub returns-in-Err : goal.returns-in-Err
returns-in-Err c =
    let a = c.solve-answer in
    answered (omega (arith, c.if-account-lt-SIZE.false)) a.result a.ensures (c.packed.ensures ∙ rw c.in-Err.is refl) (rw (← c.told.ensures) c.write.ensures.out_after) (handed _ c.told.ensures c.write.ensures.read_back)
