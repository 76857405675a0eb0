-- A refusal's number is from 1 to 11: a job's tests are numbered from 1 to 8, and 11, and the host's is 9. That of a call for a train is from 1 to 10, of one that writes a form from 1 to 12.
use mathlib.Core.Path.{◌≡◌, refl, subst}
use mathlib.Core.Bool.{Bool, true, ◌&&◌, and-eq-true_iff}
use Rattle.std.specs.Prelude.{Option, None, Some}
use mathlib.Core.List.{List, [], ◌∷◌}
use Prim.Native.Nat.{ℕ, ◌≤◌}
use lib.Dec.{leb}
use borrow.Author.Tests.{leb-true}
use Rattle.exact.specs.Choice.{or_else}
use Rattle.model.specs.Trains.{TrainCall, train_tests, train_verdict}
use Rattle.model.specs.Refusals.{Test, ◌finds◌, refuse, first_refusal, job_tests, job_verdict, rural_fault, highway_verdict, fault9, verdict}
use Rattle.model.specs.declared.Refusal.{Refusal}
use Rattle.model.specs.Format.{profile_of, header_of}
use Rattle.model.specs.StandardForm.{fault12, write_verdict}

-- a refusal, where there is one
abbrev Small : (most : ℕ) → Option Refusal → Type 0
Small most None = Unit {0}
Small most (Some r) = (1 ≤ r.number) × (r.number ≤ most)

-- tests numbered from 1 to the most
abbrev numbered : (most : ℕ) → List Test → Bool
numbered most [] = true
numbered most (t ∷ rest) = (leb 1 t.number && leb t.number most) && numbered most rest

first_small : (most : ℕ) (tests : List Test) → numbered most tests ≡ true → Small most (first_refusal tests)
first_small most [] h = tt
first_small most (t ∷ rest) h = go t.found (first_small most rest both.1)
  where
    both : ((leb 1 t.number && leb t.number most) ≡ true) × (numbered most rest ≡ true)
    both = (and-eq-true_iff _ _).0 h

    go : (f : Option ℕ) → Small most (first_refusal rest) → Small most (refuse t.number f (first_refusal rest))
    go None later = later
    go (Some p) later = let n = (and-eq-true_iff (leb 1 t.number) _).0 both.0 in (leb-true 1 _ n.0, leb-true _ most n.1)

else_small : (most : ℕ) (x y : Option Refusal) → Small most x → Small most y → Small most (or_else x y)
else_small most None y s t = t
else_small most (Some r) y s t = s

pub number_small : (b : List ℕ) (patch : ℕ) {r : Refusal} → verdict b patch ≡ Some r → (1 ≤ r.number) × (r.number ≤ 11)
unfolding verdict job_verdict job_tests
number_small b patch e =
    let host = (9 finds fault9 b patch) ∷ [] in
    subst (Small 11) e (else_small 11 (job_verdict b) (first_refusal host) (first_small 11 (job_tests b) refl) (first_small 11 host refl))

-- of a call for a train
pub train_number_small : (c : TrainCall) (room : ℕ) {r : Refusal} → train_verdict c room ≡ Some r → (1 ≤ r.number) × (r.number ≤ 10)
unfolding train_verdict train_tests
train_number_small c room e = subst (Small 10) e (first_small 10 (train_tests c room) refl)

-- of a call that writes a form
pub write_number_small : (b : List ℕ) (room : ℕ) {r : Refusal} → write_verdict b room ≡ Some r → (1 ≤ r.number) × (r.number ≤ 12)
unfolding write_verdict highway_verdict job_tests
write_number_small b room e =
    let host = (12 finds fault12 b room) ∷ [] in
    subst (Small 12) e (else_small 12 (highway_verdict b) (first_refusal host) (first_small 12 ((1 finds rural_fault (profile_of (header_of b).edition)) ∷ job_tests b) refl) (first_small 12 host refl))
