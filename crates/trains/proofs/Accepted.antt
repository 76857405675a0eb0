-- What an accepted call gives the search for its train's worst stands.
use Prim.Native.Nat.{ℕ}
use native.Mathlib.Omega.{arith}
use Rattle.model.specs.Trains.{TrainCall}
use Rattle.model.proofs.LineLimits.{ordinates_within}
use Rattle.model.proofs.TrainLimits.{CallClear, axle_count, axle_load, axle_inside, train_short}
use Rattle.stands.specs.TrainFits.{TrainFits, Ratable}

module _ (c : TrainCall) (room : ℕ) (clear : CallClear c room) where
  pub train_fits : TrainFits c.train
  train_fits =
      let f = clear.train in
      let n = axle_count c.h c.train f in
      record { some = n.0; few = n.1; load = axle_load c.h c.train f; at = axle_inside c.h c.train f; short = train_short c.h c.train f }

  pub ratable : Ratable c.section c.h c.pieces c.train
  ratable =
      let a = clear.arguments in
      record {
        line = record { room = omega (arith, a.whole); few = a.few; near = ordinates_within 5000 c.section c.pieces clear.ordinates };
        sided = clear.sided;
        length = a.length.0;
        train = train_fits;
      }
