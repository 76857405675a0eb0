-- How far from zero the sums of n lanes are, at their r or at their factors: past five lanes each lane's most is half.
use Rattle.std.specs.Prelude.{if◌then◌else◌}
use Prim.Native.Nat.{ℕ, ◌*◌, ◌/◌, ◌≤◌, ◌<◌}
use native.Mathlib.Nat.{le_refl, mul_assoc, mul_left_comm, mul-le-mul_left, le-div_iff_mul-le}
use native.Mathlib.Omega.{arith}
use lib.IntN.{ℤ, ◌*ℤ◌}
use lib.Dec.{ltb}
use borrow.Author.Tests.{ltb-true}
use Rattle.exact.specs.Bounds.{Within}
use Rattle.exact.specs.declared.Question.{Question}
use Rattle.exact.proofs.Bounds.{within_le, within_pos, within_mul}
use Rattle.exact.proofs.Bridge.{by_test}
use Rattle.exact.proofs.Levels.{total, total_fewer, total_least}
use Rattle.model.specs.Lanes.{twentieths, reduction, additional}
use Rattle.model.proofs.Lanes.{twentieths_falls}
use Rattle.magnitudes.specs.Magnitudes.{hn_lane_most, among, sum_most}
use Rattle.sets.specs.Sets.{ValuesFit}

-- each lane's most is at most that of five
pub among_most : (n most : ℕ) → among n most ≤ most
among_most n most = by_test (ltb n 6) (λ t. (if t then most else most / 2) ≤ most) (λ _. omega arith) (λ _. omega arith)

pub among_wider : (n : ℕ) {most more : ℕ} → most ≤ more → among n most ≤ among n more
among_wider n {most} {more} h = by_test (ltb n 6) (λ t. (if t then most else most / 2) ≤ (if t then more else more / 2)) (λ _. h) (λ _. omega arith)

-- of a product in each lane
pub among_times : (n t most : ℕ) → t * among n most ≤ among n (t * most)
among_times n t most =
    let double : most / 2 * 2 ≤ most = omega arith in
    by_test (ltb n 6) (λ b. t * (if b then most else most / 2) ≤ (if b then t * most else t * most / 2)) (λ _. omega arith)
    (λ _. (le-div_iff_mul-le {k = 2} {x = t * (most / 2)} {y = t * most} (omega arith)).1 (omega (arith, mul_assoc t (most / 2) 2, mul-le-mul_left t double)))

pub values_near : {q : Question} {most n : ℕ} {v : ℕ → ℤ} → ValuesFit q (among n most) n v → (i : ℕ) → i < n → Within most (v i)
values_near {most = most} {n = n} fit i h = within_le (fit.near i h) (among_most n most)

-- what additional lanes count together at most: four, five, nine and ten of them
pub additional_total : (m : ℕ) → ((m ≤ 4 → total m additional ≤ 68) × (m ≤ 5 → total m additional ≤ 80)) × ((m ≤ 9 → total m additional ≤ 124) × (m ≤ 10 → total m additional ≤ 135))
unfolding twentieths
additional_total m = ((λ h. total_fewer m 4 additional h, λ h. total_fewer m 5 additional h), (λ h. total_fewer m 9 additional h, λ h. total_fewer m 10 additional h))

-- m lanes at r do not pass m additional lanes
reduced_total : (m : ℕ) → twentieths m * m ≤ total m additional
reduced_total m = total_least m (twentieths m) additional (λ i h. twentieths_falls _ m h)

-- m of n lanes at their r
pub reduced_near : (n m : ℕ) (z : ℤ) → n ≤ 10 → m ≤ n → Within (among n hn_lane_most * m) z → Within sum_most (reduction m *ℤ z)
reduced_near n m z few h =
    by_test (ltb n 6) (λ t. Within ((if t then hn_lane_most else hn_lane_most / 2) * m) z → Within sum_most (reduction m *ℤ z))
    (λ t w. let l = ltb-true n 6 t in go hn_lane_most 80 ((additional_total m).0.1 (omega arith)) (omega arith) w)
    (λ t w. go (hn_lane_most / 2) 135 ((additional_total m).1.1 (omega arith)) (omega arith) w)
  where
    go : (b t : ℕ) → total m additional ≤ t → b * t ≤ sum_most → Within (b * m) z → Within sum_most (reduction m *ℤ z)
    go b t all fits w =
        let r = reduced_total m in
        let most : twentieths m * m ≤ t = omega arith in
        within_le (within_mul (within_pos (twentieths m) (le_refl _)) w) (omega (arith, mul_left_comm (twentieths m) b m, mul-le-mul_left b most))
