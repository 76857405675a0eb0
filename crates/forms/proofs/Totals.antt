-- A chain that names no effect twice is determined up to order by its factors: what is summed over it is a sum over all effects.
use Rattle.std.specs.Prelude.{if◌then◌else◌}
use mathlib.Core.Path.{◌≡◌, refl, sym, ◌∙◌, ap, ap₂}
use mathlib.Core.Bool.{Bool}
use mathlib.Core.List.{List, [], ◌∷◌}
use Prim.Native.Nat.{ℕ, suc, ◌-◌, ◌≤◌, ◌<◌}
use native.Mathlib.Omega.{arith}
use lib.Dec.{eqb}
use lib.IntN.{ℤ, pos, ◌+ℤ◌, ◌*ℤ◌}
use borrow.Author.Tests.{eqb-true, eq-eqb, ne_eqb}
use Rattle.exact.specs.Choice.{minℤ, maxℤ}
use Rattle.exact.specs.Questions.{better}
use Rattle.exact.specs.Ranges.{sum_to}
use Rattle.exact.specs.declared.Question.{Question}
use Rattle.exact.specs.declared.Question.TheVariants.{Greatest, Least}
use Rattle.exact.proofs.Bridge.{by_test}
use Rattle.exact.proofs.Ranges.{sum_cong, sum_add, sum_zero, sum_one}
use Rattle.exact.proofs.Ring.{◌⊕◌, ◌⊗◌, lit, ◌≐◌, solve}
use Rattle.model.specs.Job.{Effect, Term}
use Rattle.model.specs.Rows.{chain_value, best_chain, names}
use Rattle.model.specs.StandardForm.{factor_of}
use Rattle.omissions.specs.ChainTables.{Distinct}
use Rattle.forms.proofs.Rising.{Each, TermFits, unnamed}

-- ---- sums over a chain
abbrev pub total : (g : ℕ → ℕ → ℤ) → List Term → ℤ
total g [] = pos 0
total g (t ∷ rest) = g t.effect t.factor +ℤ total g rest

-- as a sum over effects 1 .. n, where a factor of 0 adds nothing
total_by_effect : (g : ℕ → ℕ → ℤ) → ((e : ℕ) → g e 0 ≡ pos 0) → (n : ℕ) (l : List Term) → Distinct l → Each (TermFits n) l →
    total g l ≡ sum_to n (λ i. g (suc i) (factor_of l (suc i)))
total_by_effect g none n [] d h = sym (sum_zero n _ (λ i _. none (suc i)))
total_by_effect g none n (t ∷ rest) d h =
    let x = g t.effect t.factor in
    let old : ℕ → ℤ = λ i. g (suc i) (factor_of rest (suc i)) in
    let own : ℕ → ℤ = λ i. if eqb t.effect (suc i) then x else pos 0 in
    let new : ℕ → ℤ = λ i. g (suc i) (factor_of (t ∷ rest) (suc i)) in
    let low = h.0.least in
    let high = h.0.most in
    let here : suc (t.effect - 1) ≡ t.effect = omega arith in
    let mine : own (t.effect - 1) ≡ x = ap (λ (b : Bool). if b then x else pos 0) (eq-eqb t.effect (suc (t.effect - 1)) (sym here)) in
    let others : (i : ℕ) → i < n → ¬ (i ≡ t.effect - 1) → own i ≡ pos 0 = λ i l r. ap (λ (b : Bool). if b then x else pos 0) (ne_eqb t.effect (suc i) (λ e. r (omega arith))) in
    let both : (i : ℕ) → i < n → new i ≡ own i +ℤ old i = λ i l. split i in
    sym (
    sum_cong n new (λ i. own i +ℤ old i) both
    ∙ sum_add n own old
    ∙ ap₂ ◌+ℤ◌ (sum_one n own (t.effect - 1) (omega arith) others ∙ mine) (sym (total_by_effect g none n rest d.1 h.1))
    )
  where
    split : (i : ℕ) → g (suc i) (factor_of (t ∷ rest) (suc i)) ≡ (if eqb t.effect (suc i) then g t.effect t.factor else pos 0) +ℤ g (suc i) (factor_of rest (suc i))
    split i =
        by_test (eqb t.effect (suc i)) (λ b. g (suc i) (if b then t.factor else factor_of rest (suc i)) ≡ (if b then g t.effect t.factor else pos 0) +ℤ g (suc i) (factor_of rest (suc i)))
        (λ b.
        let e = eqb-true t.effect (suc i) b in
        ap (λ (k : ℕ). g k t.factor) (sym e)
        ∙ solve 1 (λ x. x ≐ x ⊕ lit 0) tt (g t.effect t.factor)
        ∙ ap (λ (z : ℤ). g t.effect t.factor +ℤ z) (sym (ap (g (suc i)) (unnamed rest (suc i) (ap (names rest) (sym e) ∙ d.0)) ∙ none (suc i))))
        (λ _. solve 1 (λ x. x ≐ lit 0 ⊕ x) tt (g (suc i) (factor_of rest (suc i))))

-- two such chains with the same factors have the same sums
same_total : (g : ℕ → ℕ → ℤ) → ((e : ℕ) → g e 0 ≡ pos 0) → (n : ℕ) (k l : List Term) → Distinct k → Each (TermFits n) k → Distinct l → Each (TermFits n) l →
    ((e : ℕ) → 1 ≤ e → e ≤ n → factor_of k e ≡ factor_of l e) → total g k ≡ total g l
same_total g none n k l dk ek dl el same =
    total_by_effect g none n k dk ek
    ∙ sum_cong n _ _ (λ i h. ap (g (suc i)) (same (suc i) (omega arith) (omega arith)))
    ∙ sym (total_by_effect g none n l dl el)

nothing : (x : ℤ) → pos 0 *ℤ x ≡ pos 0
nothing x = solve 1 (λ x. lit 0 ⊗ x ≐ lit 0) tt x

-- ---- a chain's value, and its best value
abbrev worth : (effect : ℕ → Effect) → (omits : ℕ → Bool) → ℕ → ℕ → ℤ
worth effect omits e k = if omits e then pos 0 else pos k *ℤ (effect e).value

value_total : (effect : ℕ → Effect) (omits : ℕ → Bool) (l : List Term) → chain_value effect omits l ≡ total (worth effect omits) l
unfolding chain_value
value_total effect omits [] = refl
value_total effect omits (t ∷ rest) = ap (λ (z : ℤ). worth effect omits t.effect t.factor +ℤ z) (value_total effect omits rest)

abbrev best : Question → (effect : ℕ → Effect) → ℕ → ℕ → ℤ
best q effect e k = if (effect e).optional then better q (pos 0) (pos k *ℤ (effect e).value) else pos k *ℤ (effect e).value

best_total : (q : Question) (effect : ℕ → Effect) (l : List Term) → best_chain q effect l ≡ total (best q effect) l
unfolding best_chain
best_total q effect [] = refl
best_total q effect (t ∷ rest) = ap (λ (z : ℤ). best q effect t.effect t.factor +ℤ z) (best_total q effect rest)

better_zero : (q : Question) → better q (pos 0) (pos 0) ≡ pos 0
unfolding maxℤ minℤ
better_zero Greatest = refl
better_zero Least = refl

-- the chain's value where the effects of `omits` are left out: the sum over effects of factor times value
pub value_by_effect : (effect : ℕ → Effect) (omits : ℕ → Bool) (n : ℕ) (l : List Term) → Distinct l → Each (TermFits n) l →
    chain_value effect omits l ≡ sum_to n (λ i. if omits (suc i) then pos 0 else pos (factor_of l (suc i)) *ℤ (effect (suc i)).value)
value_by_effect effect omits n l d h = value_total effect omits l ∙ total_by_effect (worth effect omits) (none_worth effect omits) n l d h
  where
    none_worth : (effect : ℕ → Effect) (omits : ℕ → Bool) (e : ℕ) → worth effect omits e 0 ≡ pos 0
    none_worth effect omits e = by_test (omits e) (λ b. (if b then pos 0 else pos 0 *ℤ (effect e).value) ≡ pos 0) (λ _. refl) (λ _. nothing (effect e).value)

module _ (n : ℕ) (k l : List Term) (dk : Distinct k) (ek : Each (TermFits n) k) (dl : Distinct l) (el : Each (TermFits n) l) (same : (e : ℕ) → 1 ≤ e → e ≤ n → factor_of k e ≡ factor_of l e) where
  pub same_value : (effect : ℕ → Effect) (omits : ℕ → Bool) → chain_value effect omits k ≡ chain_value effect omits l
  same_value effect omits =
      value_by_effect effect omits n k dk ek
      ∙ sum_cong n _ _ (λ i h. ap (λ (f : ℕ). if omits (suc i) then pos 0 else pos f *ℤ (effect (suc i)).value) (same (suc i) (omega arith) (omega arith)))
      ∙ sym (value_by_effect effect omits n l dl el)

  pub same_best : (q : Question) (effect : ℕ → Effect) → best_chain q effect k ≡ best_chain q effect l
  same_best q effect = best_total q effect k ∙ same_total (best q effect) none n k l dk ek dl el same ∙ sym (best_total q effect l)
    where
      none : (e : ℕ) → best q effect e 0 ≡ pos 0
      none e =
          by_test (effect e).optional (λ b. (if b then better q (pos 0) (pos 0 *ℤ (effect e).value) else pos 0 *ℤ (effect e).value) ≡ pos 0)
          (λ _. ap (better q (pos 0)) (nothing (effect e).value) ∙ better_zero q) (λ _. nothing (effect e).value)
