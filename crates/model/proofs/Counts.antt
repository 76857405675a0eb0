-- A word within limits, as facts about numbers.
use mathlib.Core.Path.{◌≡◌, refl, sym, ◌∙◌, ap}
use mathlib.Core.Logic.{◌⊎◌, inl, inr}
use mathlib.Core.Bool.{true, false, true≢false, false≢true, and-eq-true_iff, ◌||◌}
use mathlib.Core.List.{List, [], ◌∷◌}
use Prim.Native.Nat.{ℕ, ◌≤◌, ◌<◌}
use native.Mathlib.Omega.{arith}
use lib.IntN.{ℤ, pos, negsuc, neg_ℤ}
use lib.Signed.{le_z}
use Rattle.exact.specs.Bounds.{Within}
use Rattle.exact.specs.Choice.{between}
use Rattle.exact.specs.Parts.{up}
use Rattle.exact.proofs.Bridge.{by_test, dn_neg, ≤→ℕ}
use Rattle.exact.proofs.Tests.{le_z_true}
use Rattle.words.specs.Fields.{Item, one_of}
use Rattle.model.specs.Format.{is}

-- a word that is a number from lo to hi
pub record Count (lo hi : ℕ) (z : ℤ) : Type 0 where
  pub is : z ≡ pos (up z)
  pub least : lo ≤ up z
  pub most : up z ≤ hi

-- wider limits
pub wider : {lo hi lo' hi' : ℕ} {z : ℤ} → Count lo hi z → lo' ≤ lo → hi ≤ hi' → Count lo' hi' z
wider c l h = record { is = c.is; least = omega (arith, c.least); most = omega (arith, c.most) }

pub between_count : (lo hi : ℕ) (z : ℤ) → between (pos lo) (pos hi) z ≡ true → Count lo hi z
between_count lo hi (pos n) e =
    let t = (and-eq-true_iff (le_z (pos lo) (pos n)) (le_z (pos n) (pos hi))).0 e in
    record { is = refl; least = omega (arith, ≤→ℕ (le_z_true (pos lo) (pos n) t.0)); most = omega (arith, ≤→ℕ (le_z_true (pos n) (pos hi) t.1)) }
between_count lo hi (negsuc n) e = absurd (false≢true e)

-- a word that is m, and one that is not
pub is_number : (m : ℕ) (z : ℤ) → is m z ≡ true → up z ≡ m
is_number m z t = let c = between_count m m z t in omega (arith, c.least, c.most)

is_another : (m : ℕ) {z : ℤ} → is m z ≡ false → is m (pos m) ≡ true → z ≡ pos (up z) → ¬ (up z ≡ m)
is_another m f t n e = true≢false (sym t ∙ ap (is m) (ap pos (sym e) ∙ sym n) ∙ f)

-- a number from 1 on that is neither 1, 2 nor 3
pub past_three : {hi : ℕ} {z : ℤ} → Count 1 hi z → is 1 z ≡ false → is 2 z ≡ false → is 3 z ≡ false → 3 < up z
past_three c f g h = let one = is_another 1 f refl c.is in let two = is_another 2 g refl c.is in let three = is_another 3 h refl c.is in omega (arith, c.least)

-- a word from -m to m
pub between_within : (m : ℕ) (z : ℤ) → between (neg_ℤ (pos m)) (pos m) z ≡ true → Within m z
between_within m (pos n) e = record { up≤ = omega (arith, ≤→ℕ (le_z_true (pos n) (pos m) ((and-eq-true_iff (le_z (neg_ℤ (pos m)) (pos n)) _).0 e).1)); dn≤ = omega arith }
between_within m (negsuc n) e =
    record { up≤ = omega arith; dn≤ = omega (arith, dn_neg (pos m), ≤→ℕ (le_z_true (neg_ℤ (pos m)) (negsuc n) ((and-eq-true_iff (le_z (neg_ℤ (pos m)) (negsuc n)) _).0 e).0)) }

-- n is on the list
abbrev pub OneOf : List ℕ → ℕ → Type 0
OneOf [] n = ⊥
OneOf (m ∷ rest) n = (n ≡ m) ⊎ OneOf rest n

pub one_of_lem : (l : List ℕ) (item : Item) (z : ℤ) → one_of l item z ≡ true → OneOf l (up z) × (z ≡ pos (up z))
one_of_lem [] item z e = absurd (false≢true e)
one_of_lem (m ∷ rest) item z e =
    by_test (is m z) (λ t. (t || one_of rest item z) ≡ true → OneOf (m ∷ rest) (up z) × (z ≡ pos (up z)))
    (λ t _. (inl (is_number m z t), (between_count m m z t).is))
    (λ _ f. let r = one_of_lem rest item z f in (inr r.0, r.1)) e
