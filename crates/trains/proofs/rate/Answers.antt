use borrow.Author.Rules.{rules}
use mathlib.Core.Path.{◌≡◌, refl, sym, subst}
use Rattle.std.specs.Prelude.{None}
use mathlib.Core.List.{List}
use Prim.Native.Nat.{ℕ, ◌≤◌}
use native.Mathlib.Omega.{arith}
use lib.ListN.{length, take}
use Rattle.model.specs.Decode.{influence_line}
use Rattle.model.specs.Trains.{TrainCall, mode_of, RatingRight, train_verdict}
use Rattle.model.specs.declared.Axle.{Axle}
use Rattle.model.specs.declared.Mode.{Mode}
use Rattle.model.proofs.TrainLimits.{CallClear, call_clear, axle_count}
use Rattle.axles.specs.declared.Gathered.{Gathered}
use Rattle.stands.specs.TrainFits.{Ratable}
use Rattle.trains.specs.TrainOf.{train_of}
use Rattle.trains.specs.Rated.{refused, rated}
use Rattle.trains.proofs.Gathering.{train_few, train_count}
use Rattle.trains.proofs.Accepted.{ratable}
use Rattle.trains.proofs.rate.Goals as goal

module _ (h n : ℕ) (s : List ℕ) (g : Gathered) (mode room : ℕ) where
  -- the call, of the train that was gathered
  abbrev call : TrainCall
  call = record { h = h; pieces = n; section = s; train = train_of g; mode = mode }

  -- a call that is not refused
  module _ (accepted : train_verdict call room ≡ None) where
    clear : CallClear call room
    clear = call_clear _ _ accepted

    module _ (full : length g.axles ≡ 12) where
      few : g.count ≤ 12
      few = omega (arith, train_count g full, axle_count h (train_of g) clear.train)

      ready : Ratable s h n (take g.count g.axles)
      ready = subst (Ratable s h n) (train_few g few) (ratable _ _ clear)

pub shared_ref_as_front-train : goal.shared_ref_as_front-train
shared_ref_as_front-train c =
    let a = c.args in
    few a.h a.pieces a.line.now a.g a.mode (length a.report.now) c.in-Ok.ensures.0 (search rules)

pub overflow_cast-h : goal.overflow_cast-h
overflow_cast-h c = let a = c.args in record { fits = omega (arith, (clear a.h a.pieces a.line.now a.g a.mode (length a.report.now) c.in-Ok.ensures.0).arguments.length) }

pub rating-requires : goal.rating-requires
rating-requires c = let a = c.args in ready a.h a.pieces a.line.now a.g a.mode (length a.report.now) c.in-Ok.ensures.0 (search rules)

pub write-requires : goal.write-requires
write-requires c = let a = c.args in (clear a.h a.pieces a.line.now a.g a.mode (length a.report.now) c.in-Ok.ensures.0).arguments.holds

pub returns-in-Err : goal.returns-in-Err
returns-in-Err c = refused c.in-Err.refusal c.in-Err.ensures c.packed.ensures c.clear.ensures

pub returns-in-Ok : goal.returns-in-Ok
returns-in-Ok c =
    let a = c.args in
    let line = influence_line a.line.now a.h a.pieces in
    let r = c.rating.result in
    let full : length a.g.axles ≡ 12 = search rules in
    let n = few a.h a.pieces a.line.now a.g a.mode (length a.report.now) c.in-Ok.ensures.0 full in
    rated c.in-Ok.ensures.0 r
    (subst (λ (t : List Axle). RatingRight (mode_of a.mode) line t r) (sym (train_few a.g n))
    (subst (λ (m : Mode). RatingRight m line (take a.g.count a.g.axles) r) c.in-Ok.ensures.1 c.rating.ensures))
    refl c.write.ensures.0 c.write.ensures.1
