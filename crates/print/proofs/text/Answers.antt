use mathlib.Core.Path.{refl}
use native.Mathlib.Omega.{arith}
use Rattle.print.proofs.Texts.{at_start}
use Rattle.print.proofs.text.Goals as goal

pub returns-in-Ok-clause-out_after : goal.returns-in-Ok-clause-out_after
returns-in-Ok-clause-out_after c = rw c.in-Ok.is (at_start c.put_account.ensures.puts refl (omega (arith, c.put_account.ensures.upper_bound)))

pub returns-in-Err-clause-out_after : goal.returns-in-Err-clause-out_after
returns-in-Err-clause-out_after c = rw c.in-Err.is (at_start c.put_refusal.ensures.puts refl (omega (arith, c.put_refusal.ensures.upper_bound)))
