-- The printed tables multiplied out.
use mathlib.Core.Path.{◌≡◌, refl, sym, ◌∙◌, ap}
use mathlib.Core.Bool.{Bool, false, not, true≢false}
use Prim.Native.Nat.{ℕ, ◌≤◌, ◌<◌}
use lib.Dec.{leb}
use borrow.Author.Tests.{leb-true}
use Rattle.exact.specs.Ranges.{any_to}
use Rattle.exact.proofs.Bridge.{by_test}
use Rattle.exact.proofs.Ranges.{any_intro}
use Rattle.groups.specs.FactorLines.{line_factor}

-- no line has a factor above 3000
pub factor_small : (line number : ℕ) → line < 21 → number < 12 → line_factor line number ≤ 3000
unfolding line_factor
factor_small line number h k =
    by_test (leb (line_factor line number) 3000) (λ b. line_factor line number ≤ 3000)
    (λ t. leb-true (line_factor line number) 3000 t)
    (λ f. absurd (true≢false (sym (any_intro 21 above line h (any_intro 12 (λ n. not (leb (line_factor line n) 3000)) number k (ap not f))) ∙ none)))
  where
    -- a line has a factor above it
    above : ℕ → Bool
    above l = any_to 12 (λ n. not (leb (line_factor l n) 3000))

    none : any_to 21 above ≡ false
    none = refl
