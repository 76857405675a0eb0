-- What counts of an axle: its load times the counted ordinate is what counts of the product.
use mathlib.Core.Path.{◌≡◌, refl, sym, ◌∙◌, ap, subst}
use mathlib.Core.Logic.{◌⊎◌, inl, inr}
use Prim.Native.Nat.{ℕ}
use lib.IntN.{ℤ, pos, ◌*ℤ◌}
use Rattle.exact.specs.Questions.{NoBetter}
use Rattle.exact.specs.declared.Question.{Question}
use Rattle.exact.specs.declared.Question.TheVariants.{Greatest, Least}
use Rattle.exact.proofs.Order.{total}
use Rattle.exact.proofs.Ring.{◌⊗◌, lit, ◌≐◌, solve}
use Rattle.exact.proofs.Extremes.{no_better_scale}
use Rattle.model.specs.Trains.{counted}
use Rattle.model.specs.declared.Mode.{Mode}
use Rattle.model.specs.declared.Mode.TheVariants.{AllAxles, NoRelief}
use Rattle.model.proofs.Signs.{multiple_zero}
use Rattle.model.proofs.Trains.{kept_whole, kept_none}

-- an ordinate beats nothing, or nothing beats it
either : (q : Question) (y : ℤ) → NoBetter q (pos 0) y ⊎ NoBetter q y (pos 0)
either Greatest y = total (pos 0) y
either Least y = total y (pos 0)

pub counted_scale : (mode : Mode) (q : Question) (load : ℕ) (y : ℤ) → counted mode q (pos load *ℤ y) ≡ pos load *ℤ counted mode q y
counted_scale AllAxles q load y = refl
counted_scale NoRelief q load y = elim (either q y) [
  | inl h ↦ kept_whole q (pos load *ℤ y) (multiple_zero q load y h) ∙ ap (λ (x : ℤ). pos load *ℤ x) (sym (kept_whole q y h))
  | inr h ↦
      kept_none q (pos load *ℤ y) (subst (NoBetter q (pos load *ℤ y)) (nothing load) (no_better_scale q load y (pos 0) h))
      ∙ sym (nothing load)
      ∙ ap (λ (x : ℤ). pos load *ℤ x) (sym (kept_none q y h))
]
  where
    nothing : (load : ℕ) → pos load *ℤ pos 0 ≡ pos 0
    nothing load = solve 1 (λ l. l ⊗ lit 0 ≐ lit 0) tt (pos load)
