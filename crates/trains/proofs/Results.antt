-- What a host may conclude from the result of a call for a train.
use mathlib.Core.Path.{◌≡◌, sym, ◌∙◌, ap, ap₂}
use Rattle.std.specs.Prelude.{None, Some}
use mathlib.Core.List.{List}
use Prim.Native.Nat.{ℕ, zero, suc, ◌*◌, ◌/◌, ◌%◌, ◌<◌}
use native.Mathlib.Omega.{arith}
use lib.IntN.{pos, ◌-ℤ◌}
use lib.ListN.{length, get_or, drop}
use Rattle.exact.specs.declared.Question.TheVariants.{Greatest, Least}
use Rattle.numbers.specs.NumberBytes.{number_of}
use Rattle.reports.specs.ReportNumbers.{report_numbers}
use Rattle.model.specs.declared.Refusal.{Refusal}
use Rattle.model.specs.Job.{InfluenceLine}
use Rattle.model.specs.Trains.{TrainCall, RatingRight, train_verdict}
use Rattle.model.specs.declared.{Axle.Axle, Mode.Mode, Rating.Rating}
use Rattle.model.proofs.Determined.{some_not_none}
use Rattle.model.proofs.RefusalNumbers.{train_number_small}
use Rattle.trains.specs.Rated.{result_of, Rated, refused, rated}

-- number and place come apart again, as the header takes them
pub taken_apart : (c : TrainCall) (room : ℕ) (r : Refusal) → train_verdict c room ≡ Some r → (result_of (Some r) % 256 ≡ r.number) × (result_of (Some r) / 256 ≡ r.place)
taken_apart c room r e = let s = train_number_small c room e in omega arith

-- 0 is a rating, and only that
pub zero_rates : {c : TrainCall} {before after : List ℕ} → Rated c before 0 after → train_verdict c (length before) ≡ None
zero_rates {c} {before} (refused r v e a) = let s = train_number_small c (length before) v in absurd (omega (arith, e))
zero_rates (rated v r right e a k) = v

-- the result is the verdict's
result_is : {c : TrainCall} {before after : List ℕ} {n : ℕ} → Rated c before n after → n ≡ result_of (train_verdict c (length before))
result_is (refused r v e a) = e ∙ ap result_of (sym v)
result_is (rated v r right e a k) = e ∙ ap result_of (sym v)

-- greatest, least and their difference are fixed
values_same : (mode : Mode) (line : InfluenceLine) (t : List Axle) (r s : Rating) → RatingRight mode line t r → RatingRight mode line t s → (k : ℕ) → k < 3 → get_or (report_numbers r) k (pos 0) ≡ get_or (report_numbers s) k (pos 0)
values_same mode line t r s x y zero l = (x.extremes Greatest).value ∙ sym (y.extremes Greatest).value
values_same mode line t r s x y (suc zero) l = (x.extremes Least).value ∙ sym (y.extremes Least).value
values_same mode line t r s x y (suc (suc zero)) l =
    x.difference ∙ ap₂ ◌-ℤ◌ ((x.extremes Greatest).value ∙ sym (y.extremes Greatest).value) ((x.extremes Least).value ∙ sym (y.extremes Least).value) ∙ sym y.difference
values_same mode line t r s x y (suc (suc (suc k))) l = absurd (omega arith)

-- the same call gives the same result, greatest, least and difference
pub same_rating : {c : TrainCall} {before a b : List ℕ} {m n : ℕ} → Rated c before m a → Rated c before n b → (m ≡ n) × ((k : ℕ) → k < 3 → number_of (drop (8 * k) a) ≡ number_of (drop (8 * k) b))
same_rating {c} {before} {a} {b} {m} {n} x y = (result_is x ∙ sym (result_is y), go x y)
  where
    go : Rated c before m a → Rated c before n b → (k : ℕ) → k < 3 → number_of (drop (8 * k) a) ≡ number_of (drop (8 * k) b)
    go (refused r v e f) (refused s w d g) k l = ap (λ (z : List ℕ). number_of (drop (8 * k) z)) (f ∙ sym g)
    go (refused r v e f) (rated w s right d g i) k l = absurd (some_not_none (sym v ∙ w))
    go (rated v r right e f i) (refused s w d g) k l = absurd (some_not_none (sym w ∙ v))
    go (rated v r right e f i) (rated w s also d g j) k l = i k (omega arith) ∙ values_same _ _ _ r s right also k l ∙ sym (j k (omega arith))
