-- Additional lanes each at its own factor are never milder than all at the r of their number.
use Rattle.std.specs.Prelude.{if◌then◌else◌}
use mathlib.Core.Path.{◌≡◌, refl, sym, ◌∙◌, ap, subst}
use mathlib.Core.Bool.{Bool, false, ◌&&◌}
use Prim.Native.Nat.{ℕ, ◌^◌, ◌<◌}
use lib.IntN.{ℤ, pos, ◌+ℤ◌, ◌*ℤ◌}
use Rattle.exact.specs.Questions.{NoBetter}
use Rattle.exact.specs.Ranges.{sum_to, count_to}
use Rattle.exact.specs.declared.Question.{Question}
use Rattle.exact.proofs.Bridge.{by_test}
use Rattle.exact.proofs.Extremes.{no_better_refl, no_better_of_eq, no_better_trans, no_better_add}
use Rattle.exact.proofs.Ranges.{sum_mono, sum_scale, count_cong}
use Rattle.exact.proofs.Ring.{◌⊗◌, lit, ◌≐◌, solve}
use Rattle.exact.proofs.Weights.{no_better_more}
use Rattle.model.specs.Lanes.{bit, twentieths, reduction, additional}
use Rattle.model.specs.Traffic.{set_sum, overload_sum, best_overload}
use Rattle.model.proofs.Assignments.{overload_unbeaten}
use Rattle.model.proofs.Lanes.{twentieths_falls}
use Rattle.sets.proofs.Factors.{by_counts}
use Rattle.sets.proofs.FirstSets.{reduced_set}
use Rattle.sets.proofs.Places.{place_in, place_below, places_count}

-- beside HO in lane o, the lanes of a set without it at the r of their number do not beat overload's best
pub never_milder : (q : Question) (n : ℕ) (hn ho : ℕ → ℤ) → ((i : ℕ) → i < n → NoBetter q (pos 0) (hn i)) → (o set : ℕ) → o < n → set < 2 ^ n → bit set o ≡ false →
    NoBetter q (pos 20 *ℤ ho o +ℤ set_sum reduction n hn set) (best_overload q n hn ho)
unfolding overload_sum
never_milder q n hn ho some o set below small apart =
    no_better_trans q _ (overload_sum n hn (ho o) f) _
    (no_better_add q (pos 20 *ℤ ho o) (pos 20 *ℤ ho o) _ _ (no_better_refl q _)
    (subst (λ (z : ℤ). NoBetter q z (sum_to n (λ i. pos (f i) *ℤ hn i))) (sum_scale n (reduction m) (λ i. if bit set i then hn i else pos 0) ∙ sym (reduced_set n hn set small)) (sum_mono q n _ _ each)))
    (overload_unbeaten q n hn ho o f below (ap (λ (t : Bool). if t then additional (place o) else 0) apart) (by_counts n m f counts))
  where
    m : ℕ
    m = count_to n (bit set)

    place : ℕ → ℕ
    place = place_in q hn (bit set) n

    -- the first factors of the list, by rank
    f : ℕ → ℕ
    f i = if bit set i then additional (place i) else 0

    counts : (g : ℕ → Bool) → g 0 ≡ false → count_to n (λ i. g (f i)) ≡ count_to m (λ j. g (additional j))
    counts g e =
        count_cong n _ _ (λ i l. by_test (bit set i) (λ t. g (if t then additional (place i) else 0) ≡ (t && g (additional (place i)))) (λ _. refl) (λ _. e)) ∙ places_count q hn (bit set) n (λ j. g (additional j))

    -- none of them is below r
    each : (i : ℕ) → i < n → NoBetter q (reduction m *ℤ (if bit set i then hn i else pos 0)) (pos (f i) *ℤ hn i)
    each i l =
        by_test (bit set i) (λ t. NoBetter q (reduction m *ℤ (if t then hn i else pos 0)) (pos (if t then additional (place i) else 0) *ℤ hn i))
        (λ t. no_better_more q (twentieths m) (additional (place i)) (hn i) (some i l) (twentieths_falls _ m (place_below q hn (bit set) n i l t)))
        (λ _. no_better_of_eq q (solve 2 (λ r x. r ⊗ lit 0 ≐ lit 0 ⊗ x) tt (reduction m) (hn i)))
