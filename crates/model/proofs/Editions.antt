-- What the editions of an arm of a `match` have in common.
use mathlib.Core.Path.{◌≡◌, refl}
use mathlib.Core.Logic.{◌⊎◌, inl, inr}
use mathlib.Core.List.{List}
use Prim.Native.Nat.{ℕ}
use Rattle.model.specs.Format.{profile_of, kilonewtons, newtons, effect_unit, second_width, ordinate_limit}
use Rattle.model.specs.Job.{highway}
use Rattle.model.specs.declared.Edition.{Edition}
use Rattle.model.specs.declared.Edition.TheVariants.{First, Second, Third, Fourth}

-- 1, 2 and 3 are for highways
pub highway_editions : (e : Edition) → (e ≡ First) ⊎ ((e ≡ Second) ⊎ (e ≡ Third)) → profile_of e ≡ highway
highway_editions e (inl h) = rw h refl
highway_editions e (inr (inl h)) = rw h refl
highway_editions e (inr (inr h)) = rw h refl

-- 1 and 4 have effects in kN·U
pub kilonewton_editions : (e : Edition) → (e ≡ First) ⊎ (e ≡ Fourth) → effect_unit e ≡ kilonewtons
kilonewton_editions e (inl h) = rw h refl
kilonewton_editions e (inr h) = rw h refl

-- 2 and 3 have effects in N·U
pub newton_editions : (e : Edition) → (e ≡ Second) ⊎ (e ≡ Third) → effect_unit e ≡ newtons
newton_editions e (inl h) = rw h refl
newton_editions e (inr h) = rw h refl

-- 1, 4 and 2 have one carriageway
pub one_carriageway_editions : (e : Edition) → (e ≡ First) ⊎ ((e ≡ Fourth) ⊎ (e ≡ Second)) → ((b : List ℕ) → second_width e b ≡ 0) × (ordinate_limit e ≡ 5000)
one_carriageway_editions e (inl h) = rw h (λ b. refl, refl)
one_carriageway_editions e (inr (inl h)) = rw h (λ b. refl, refl)
one_carriageway_editions e (inr (inr h)) = rw h (λ b. refl, refl)
