-- The ordinates at the ends of a piece, on the line and off it.
use Rattle.std.specs.Prelude.{if◌then◌else◌}
use mathlib.Core.Path.{◌≡◌, refl, sym, ◌∙◌, ap}
use mathlib.Core.Bool.{◌&&◌}
use mathlib.Core.List.{List}
use Prim.Native.Nat.{ℕ, zero, suc, ◌+◌, ◌-◌, ◌*◌, ◌≤◌, ◌<◌}
use native.Mathlib.Omega.{arith}
use lib.Dec.{leb, ltb}
use lib.IntN.{ℤ, pos, ◌+ℤ◌, ◌*ℤ◌}
use borrow.Author.Tests.{lt-ltb, le-ltb, le-leb, lt-leb, ltb-true}
use Rattle.exact.specs.Bounds.{Within}
use Rattle.exact.specs.declared.Question.{Question}
use Rattle.exact.proofs.Bounds.{within_le, within_pos, within_add, within_mul}
use Rattle.exact.proofs.Bridge.{by_test}
use Rattle.exact.proofs.Extremes.{better_ind}
use Rattle.exact.proofs.Ranges.{sum_step}
use Rattle.exact.proofs.Ring.{◌⊕◌, ◌⊗◌, lit, ◌≐◌, solve}
use Rattle.words.specs.Words.{word_at}
use Rattle.magnitudes.specs.Magnitudes.{ordinate_most, axle_most, train_most}
use Rattle.model.specs.Trains.{axle_at, counted}
use Rattle.model.specs.declared.Mode.{Mode}
use Rattle.model.specs.declared.Mode.TheVariants.{AllAxles, NoRelief}
use Rattle.model.proofs.Trains.{counted_zero}
use Rattle.pair.specs.LineFits.{LineFits}
use Rattle.stands.specs.declared.Spaced.{Spaced}
use Rattle.stands.specs.Runs.{SpacedFits, end_ordinate, run_sum}

module _ (s : List ℕ) (n less x end : ℕ) where
  pub end_before : x < less → end_ordinate s n less x end ≡ pos 0
  end_before h = rw (lt-leb less x h) refl

  pub end_past : less ≤ x → n ≤ x - less → end_ordinate s n less x end ≡ pos 0
  end_past h l = rw (le-leb less x h, le-ltb (x - less) n l) refl

  pub end_on : less ≤ x → x - less < n → end_ordinate s n less x end ≡ word_at s (2 * (x - less) + end)
  end_on h l = rw (le-leb less x h, lt-ltb (x - less) n l) refl

-- an axle off the line adds nothing
pub adds_nothing : (mode : Mode) (q : Question) (load : ℕ) (v : ℤ) {y : ℤ} → y ≡ pos 0 → v ≡ v +ℤ pos load *ℤ counted mode q y
adds_nothing mode q load v e =
    solve 2 (λ v l. v ≐ v ⊕ l ⊗ lit 0) tt v (pos load) ∙ ap (λ (x : ℤ). v +ℤ pos load *ℤ x) (sym (ap (counted mode q) e ∙ counted_zero mode q))

-- ---- the sum of a run
module _ (mode : Mode) (q : Question) (s : List ℕ) (n : ℕ) (r : Spaced) (m end : ℕ) where
  pub run_none : run_sum mode q s n r m end 0 ≡ pos 0
  unfolding run_sum
  run_none = refl

  -- with one axle more
  pub run_step : (c : ℕ) → run_sum mode q s n r m end (c + 1) ≡ run_sum mode q s n r m end c +ℤ pos (axle_at r.axles c).load *ℤ counted mode q (end_ordinate s n r.length (m + (axle_at r.axles c).at) end)
  unfolding run_sum
  run_step c = sum_step c (λ i. pos (axle_at r.axles i).load *ℤ counted mode q (end_ordinate s n r.length (m + (axle_at r.axles i).at) end))

-- how far from zero it is
end_near : (s : List ℕ) (n less x end : ℕ) → LineFits s n → end ≤ 1 → Within ordinate_most (end_ordinate s n less x end)
end_near s n less x end fits few =
    by_test (leb less x) (λ b. Within ordinate_most (if b && ltb (x - less) n then word_at s (2 * (x - less) + end) else pos 0))
    (λ h. by_test (ltb (x - less) n) (λ b. Within ordinate_most (if b then word_at s (2 * (x - less) + end) else pos 0)) (λ l. fits.near _ (let m = ltb-true (x - less) n l in omega arith)) (λ l. within_pos ordinate_most (omega arith)))
    (λ h. within_pos ordinate_most (omega arith))

counted_near : (mode : Mode) (q : Question) {b : ℕ} {y : ℤ} → Within b y → Within b (counted mode q y)
counted_near AllAxles q w = w
counted_near NoRelief q {b} {y} w = better_ind q (Within b) y (pos 0) w (within_pos b (omega arith))

-- a run's sum, of at most twelve axles
pub run_near : (mode : Mode) (q : Question) (s : List ℕ) (n : ℕ) (r : Spaced) (m : ℕ) → LineFits s n → SpacedFits r → (end : ℕ) → end ≤ 1 → (c : ℕ) → c ≤ r.count → Within train_most (run_sum mode q s n r m end c)
unfolding run_sum
run_near mode q s n r m line train end few c l =
    within_le (go c l) (let h = train.few in omega arith)
  where
    go : (c : ℕ) → c ≤ r.count → Within (c * axle_most) (run_sum mode q s n r m end c)
    go zero l = within_pos 0 (omega arith)
    go (suc c) l =
        within_le (within_add (go c (omega arith)) (within_mul (within_pos 400 (train.load c (omega arith))) (counted_near mode q (end_near s n r.length (m + (axle_at r.axles c).at) end line few)))) (omega arith)
