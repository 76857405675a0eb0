use mathlib.Core.Path.{◌≡◌, refl, sym, subst}
use mathlib.Core.List.{List}
use Prim.Native.Nat.{ℕ, ◌/◌, ◌≤◌, ◌<◌}
use native.Mathlib.Nat.{div-le_self, le_trans}
use native.Mathlib.Omega.{arith}
use lib.ListN.{length}
use Rattle.exact.proofs.Rounding.{div_mono}
use Rattle.model.specs.Trains.{axle_at, train_length, distance}
use Rattle.model.specs.declared.Axle.{Axle}
use Rattle.model.specs.declared.Way.{Way}
use Rattle.model.specs.declared.Way.TheVariants.{AsGiven, Turned}
use Rattle.stands.proofs.in_pieces.Goals as goal

-- none is farther from the leftmost axle than the train is long
reached : (way : Way) (t : List Axle) (j : ℕ) → (axle_at t j).at ≤ train_length t → distance way t j ≤ train_length t
reached AsGiven t j h = h
reached Turned t j h = omega arith

pub returns : goal.returns
returns c =
    let a = c.args in
    let t = a.train.now in
    let fits = c.requires.1 in
    let done : (j : ℕ) → j < length t → ((axle_at c.loop-i.axles j).load ≡ (axle_at t j).load) × ((axle_at c.loop-i.axles j).at ≡ distance a.way t j / a.h) = λ j l. c.loop-i.invariant.1 j (omega arith) in (
      record { count = refl; reach = refl; load = λ j l. (done j l).0; at = λ j l. (done j l).1 },
      record {
        few = fits.few;
        short = le_trans (div-le_self _ a.h) fits.short;
        load = λ j l. subst (λ (k : ℕ). k ≤ 400) (sym (done j l).0) (fits.load j l);
        at = λ j l. subst (λ (k : ℕ). k ≤ train_length t / a.h) (sym (done j l).1) (div_mono c.requires.0 (reached a.way t j (fits.at j l)));
      },
    )
