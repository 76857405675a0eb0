use mathlib.Core.Bool.{Bool}
use mathlib.Core.Path.{sym, ◌∙◌, ap}
use Rattle.std.specs.Prelude.{Some}
use Prim.Native.Nat.{suc}
use native.Mathlib.Numerals.{add-one}
use native.Mathlib.Omega.{arith}
use Rattle.model.specs.Refusals.{unless}
use Rattle.limits.proofs.Scans.{search_found, search_over}
use Rattle.trains.proofs.first_fault.Goals as goal

pub returns-then-not-axle_fits : goal.returns-then-not-axle_fits
returns-then-not-axle_fits c =
    let i = c.loop-i.i in
    ap Some (add-one i) ∙ sym (search_found c.loop-i.invariant (omega arith) (ap (λ (t : Bool). unless t (suc i)) (sym c.axle_fits.ensures ∙ c.if-not-axle_fits.true)))

pub returns : goal.returns
returns c = sym (search_over c.loop-i.invariant (omega arith))
