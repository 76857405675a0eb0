use native.Mathlib.Nat.{pos_of_ne-zero}
use native.Mathlib.Omega.{arith}
use Rattle.buffer.proofs.Stores.{nothing, and_then, retold}
use Rattle.decimal.proofs.Digits.{digits_none, digits_one, digits_more}
use Rattle.decimal.proofs.+put_digits.Goals as goal

pub returns-then-places-eq0-clause-puts : goal.returns-then-places-eq0-clause-puts
returns-then-places-eq0-clause-puts t c = retold (digits_none _ c.args.n c.if-places-eq0.true) nothing

pub returns-then-n-lt10-clause-puts : goal.returns-then-n-lt10-clause-puts
returns-then-n-lt10-clause-puts t c =
    let h = pos_of_ne-zero c.if-places-eq0.false in
    retold (digits_one _ _ h c.if-n-lt10.true) c.put_digit.ensures

pub returns-clause-puts : goal.returns-clause-puts
returns-clause-puts t c =
    let h = pos_of_ne-zero c.if-places-eq0.false in
    retold (digits_more _ _ h (omega arith)) (and_then c.put_digits.ensures.puts c.put_digit-2.ensures)
