-- What is gathered of a train: its first axles, before empty ones; of at most twelve axles it is the train.
use mathlib.Core.Path.{◌≡◌, refl, ap}
use mathlib.Core.List.{List, [], ◌∷◌, ◌++◌}
use Prim.Native.Nat.{ℕ, zero, suc, min, ◌≤◌}
use native.Mathlib.Nat.{not-suc-le-zero, le_of_suc-le-suc}
use native.Mathlib.Omega.{arith}
use lib.ListN.{length, take, drop, replicate}
use Rattle.exact.specs.Ranges.{list_of}
use Rattle.model.specs.Trains.{axle_at}
use Rattle.model.specs.declared.Axle.{Axle}
use Rattle.axles.specs.Gathering.{twelve}

firsts : (n : ℕ) (t : List Axle) → length t ≤ n → take (length t) (list_of n (axle_at t)) ≡ t
firsts n [] h = refl
firsts zero (a ∷ t) h = absurd (not-suc-le-zero h)
firsts (suc n) (a ∷ t) h = ap (λ (r : List Axle). a ∷ r) (firsts n t (le_of_suc-le-suc h))

pub gathered_train : (t : List Axle) → length t ≤ 12 → take (length t) (twelve t) ≡ t
gathered_train t h = firsts 12 t h

-- an axle past the end
abbrev empty : Axle
empty = record { load = 0; at = 0 }

-- the first k axles before empty ones are the first n, where k is the smaller of n and the train's number of axles
none : (n : ℕ) → replicate n empty ≡ list_of n (λ i. empty)
none zero = refl
none (suc n) = ap (λ (r : List Axle). empty ∷ r) (none n)

pub firsts_padded : (n k : ℕ) (t : List Axle) → k ≡ min (length t) n → take k t ++ drop k (replicate n empty) ≡ list_of n (axle_at t)
firsts_padded zero k t e = let z : k ≡ 0 = omega (arith, e) in rw z refl
firsts_padded (suc n) k [] e = let z : k ≡ 0 = omega (arith, e) in rw z (none (suc n))
firsts_padded (suc n) zero (a ∷ t) e = absurd (omega (arith, e))
firsts_padded (suc n) (suc k) (a ∷ t) e = ap (λ (r : List Axle). a ∷ r) (firsts_padded n k t (omega (arith, e)))
