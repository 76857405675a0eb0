-- The faults of some parts, from what each part has.
use mathlib.Core.Path.{◌≡◌, refl, sym, ◌∙◌, ap, subst}
use Rattle.std.specs.Prelude.{Option, None, Some, MatchOption}
use mathlib.Core.List.{List}
use Prim.Native.Nat.{ℕ}
use native.Mathlib.Nat.{mul-zero}
use native.Mathlib.Omega.{arith}
use lib.ListN.{length}
use Rattle.exact.specs.Choice.{or_else}
use Rattle.words.specs.Fields.{Field, ◌of◌, moved, misfit_from, item_from, misfit}

-- they end in none
pub or_nothing : (o : Option ℕ) → or_else o None ≡ o
or_nothing None = refl
or_nothing (Some p) = refl

-- a part's place, else what another is asked for
pub asked_next : (first later : Option ℕ) {a r : Option ℕ} {post : Type 0} → first ≡ a → MatchOption first post (λ p. r ≡ Some p) → (post → r ≡ later) → r ≡ or_else a later
asked_next None later {a} {r} e m h = subst (λ (o : Option ℕ). r ≡ or_else o later) e (h m)
asked_next (Some p) later {a} {r} e m h = subst (λ (o : Option ℕ). r ≡ or_else o later) e m

-- three parts, one asked after the other
pub three_parts : (a b c : Option ℕ) → or_else (or_else a b) c ≡ or_else a (or_else b (or_else c None))
three_parts (Some p) b c = refl
three_parts None (Some p) c = refl
three_parts None None c = sym (or_nothing c)

-- at the job's first word
pub in_front : (o : Option ℕ) → moved 0 o ≡ o
in_front None = refl
in_front (Some p) = ap Some (omega arith)

-- of one item
pub one_item : (fields : List Field) (s : List ℕ) → misfit (1 of fields) s ≡ misfit_from 0 fields (item_from s 0 0)
unfolding misfit
one_item fields s =
    subst (λ (z : ℕ). or_else (moved z (misfit_from 0 fields (item_from s z 0))) None ≡ misfit_from 0 fields (item_from s 0 0)) (sym (mul-zero (length fields)))
    (or_nothing _ ∙ in_front _)
