-- The train that was gathered, beside the train that was given.
use mathlib.Core.Path.{◌≡◌, refl, sym, ◌∙◌, ap}
use Rattle.std.specs.Prelude.{Some}
use mathlib.Core.List.{List}
use Prim.Native.Nat.{ℕ, ◌≤◌, ◌<◌}
use native.Mathlib.Decide.{dec_le}
use native.Mathlib.Omega.{arith}
use borrow.Author.Tests.{le-leb, lt-leb}
use lib.ListN.{length, take, length-take, length-replicate}
use Rattle.model.specs.Trains.{train_fault}
use Rattle.model.specs.declared.Axle.{Axle}
use Rattle.model.proofs.TrainLimits.{no_axles, many_axles}
use Rattle.axles.specs.Gathering.{gathered_of}
use Rattle.axles.specs.declared.Gathered.{Gathered}
use Rattle.axles.proofs.Trains.{gathered_train}
use Rattle.trains.specs.TrainOf.{train_of}

-- up to twelve axles
pub train_few : (g : Gathered) → g.count ≤ 12 → train_of g ≡ take g.count g.axles
unfolding train_of
train_few g l = rw (le-leb g.count 12 l) refl

-- it has its number
train_many : (g : Gathered) → 12 < g.count → length (train_of g) ≡ g.count
unfolding train_of
train_many g l = rw (lt-leb g.count 12 l) (length-replicate g.count _)

pub train_count : (g : Gathered) → length g.axles ≡ 12 → length (train_of g) ≡ g.count
train_count g e = elim (dec_le g.count 12) [ yes l ↦ ap length (train_few g l) ∙ taken l | no l ↦ train_many g (omega arith) ]
  where
    taken : g.count ≤ 12 → length (take g.count g.axles) ≡ g.count
    taken l = omega (arith, length-take g.count g.axles)

-- none, or more than twelve, is a fault at place 0
pub none_given : (h : ℕ) (g : Gathered) → g.count < 1 → Some 0 ≡ train_fault h (train_of g)
none_given h g l = sym (no_axles h (train_of g) (short (train_few g (omega arith))))
  where
    short : train_of g ≡ take g.count g.axles → length (train_of g) < 1
    short e = rw e (omega (arith, length-take g.count g.axles))

pub too_many : (h : ℕ) (g : Gathered) → 12 < g.count → Some 0 ≡ train_fault h (train_of g)
too_many h g l = sym (many_axles h (train_of g) (omega (arith, train_many g l)))

-- it has the fault of the train given
pub gathered_fault : (h : ℕ) (t : List Axle) → train_fault h (train_of (gathered_of t)) ≡ train_fault h t
gathered_fault h t = elim (dec_le (length t) 12) [
  | yes l ↦ ap (train_fault h) (train_few (gathered_of t) l ∙ gathered_train t l)
  | no l ↦ let m : 12 < length t = omega arith in sym (too_many h (gathered_of t) m) ∙ sym (many_axles h t m)
]
