-- A chain written record after record reads back as it was, ends, and names no effect twice.
use mathlib.Core.Path.{◌≡◌, refl, sym, ◌∙◌, ap}
use mathlib.Core.Bool.{Bool, true, ◌||◌, true≢false, or-true}
use mathlib.Core.List.{List, [], ◌∷◌, ◌++◌, append_assoc}
use Prim.Native.Nat.{ℕ, zero, suc, ◌+◌, ◌-◌, ◌*◌, ◌≤◌, ◌<◌}
use native.Mathlib.Omega.{arith}
use lib.Dec.{eqb}
use lib.IntN.{pos}
use lib.ListN.{length, length-append}
use borrow.Author.Tests.{eq-eqb}
use Rattle.exact.specs.Parts.{up}
use Rattle.words.specs.Words.{word_at}
use Rattle.model.specs.Chains.{record_effect, record_factor, next_record, chain_from, step, walk}
use Rattle.model.specs.Decode.{terms_from}
use Rattle.model.specs.Job.{Term}
use Rattle.model.specs.Rows.{names}
use Rattle.model.specs.StandardForm.{word_bytes, start_at, chain_bytes}
use Rattle.omissions.specs.ChainTables.{Distinct}
use Rattle.forms.proofs.Rising.{Each, TermFits}
use Rattle.forms.proofs.Reading.{word_past, word_read, bytes_four}

-- records k + 1, k + 2, .. of a section are this chain
abbrev pub Written : List ℕ → (k : ℕ) → List Term → Type 0
Written s k [] = Unit {0}
Written s k (t ∷ rest) =
    (word_at s (3 * k) ≡ pos t.effect) × (word_at s (3 * k + 1) ≡ pos t.factor) × (word_at s (3 * k + 2) ≡ pos (start_at (suc (suc k)) rest))
    × Written s (suc k) rest

start_most : (c : ℕ) (ts : List Term) → start_at c ts ≤ c
start_most c [] = omega arith
start_most c (t ∷ rest) = omega arith

-- so they are where its bytes stand
pub written : (n : ℕ) → n ≤ 16 → (s p q : List ℕ) (k : ℕ) (ts : List Term) → s ≡ p ++ (chain_bytes (suc k) ts ++ q) → length p ≡ 12 * k → k + length ts ≤ 512 → Each (TermFits n) ts → Written s k ts
written n few s p q k [] e l m fit = tt
written n few s p q k (t ∷ rest) e l m fit =
    let a = word_bytes t.effect in
    let b = word_bytes t.factor in
    let c = word_bytes (start_at (suc (suc k)) rest) in
    let z = chain_bytes (suc (suc k)) rest ++ q in
    let here : s ≡ p ++ (a ++ (b ++ (c ++ z))) = e ∙ ap (λ (x : List ℕ). p ++ x) (simp append_assoc) in
    let beyond : p ++ (a ++ (b ++ (c ++ z))) ≡ (p ++ (a ++ (b ++ c))) ++ z = simp append_assoc in
    let f = fit.0 in
    let next = start_most (suc (suc k)) rest in
    let word : (j : ℕ) → word_at s (3 * k + j) ≡ word_at (a ++ (b ++ (c ++ z))) j = λ j. ap (λ (x : List ℕ). word_at x (3 * k + j)) here ∙ word_past p (a ++ (b ++ (c ++ z))) (3 * k) j (omega arith) in
    let first : 3 * k + 0 ≡ 3 * k = omega arith in (
      ap (word_at s) (sym first) ∙ word 0 ∙ word_read t.effect _ (omega (arith, f.most)),
      word 1 ∙ word_past a (b ++ (c ++ z)) 1 0 (bytes_four t.effect) ∙ word_read t.factor _ (omega (arith, f.factor)),
      word 2 ∙ word_past a (b ++ (c ++ z)) 1 1 (bytes_four t.effect) ∙ word_past b (c ++ z) 1 0 (bytes_four t.factor) ∙ word_read (start_at (suc (suc k)) rest) z (omega arith),
      written n few s (p ++ (a ++ (b ++ c))) q (suc k) rest (here ∙ beyond) (simp (length-append, bytes_four) (omega arith)) (omega arith) fit.1,
    )

-- ---- record k + 1 by its words
module _ (s : List ℕ) (k n : ℕ) where
  last : suc k - 1 ≡ k
  last = omega arith

  effect_read : word_at s (3 * k) ≡ pos n → record_effect s (suc k) ≡ n
  effect_read e = rw last (ap up e)

  factor_read : word_at s (3 * k + 1) ≡ pos n → record_factor s (suc k) ≡ n
  factor_read e = rw last (ap up e)

  next_read : word_at s (3 * k + 2) ≡ pos n → next_record s (suc k) ≡ n
  next_read e = rw last (ap up e)

-- ---- the chain
pub chain_read : (s : List ℕ) (k most : ℕ) (ts : List Term) → Written s k ts → length ts ≤ most → terms_from s most (start_at (suc k) ts) ≡ ts
unfolding chain_from
chain_read s k zero [] w h = refl
chain_read s k (suc most) [] w h = refl
chain_read s k zero (t ∷ rest) w h = absurd (omega arith)
chain_read s k (suc most) (t ∷ rest) w h =
    rw (effect_read s k t.effect w.0, factor_read s k t.factor w.1, next_read s k (start_at (suc (suc k)) rest) w.2)
    (ap (λ (l : List Term). t ∷ l) (chain_read s (suc k) most rest w.3 (omega arith)))

walk_on : (s : List ℕ) (c j : ℕ) → walk s c (suc j) ≡ walk s (step s c) j
unfolding walk
walk_on s c zero = refl
walk_on s c (suc j) = ap (step s) (walk_on s c j)

-- a step along it
along : (s : List ℕ) (k j : ℕ) (t : Term) (rest : List Term) → Written s k (t ∷ rest) → walk s (suc k) (suc j) ≡ walk s (start_at (suc (suc k)) rest) j
along s k j t rest w = walk_on s (suc k) j ∙ ap (λ (c : ℕ). walk s c j) (next_read s k (start_at (suc (suc k)) rest) w.2)

pub chain_over : (s : List ℕ) (k : ℕ) (ts : List Term) → Written s k ts → walk s (start_at (suc k) ts) (length ts) ≡ 0
unfolding walk
chain_over s k [] w = refl
chain_over s k (t ∷ rest) w = along s k (length rest) t rest w ∙ chain_over s (suc k) rest w.3

walk_none : (s : List ℕ) (j : ℕ) → walk s 0 j ≡ 0
unfolding walk
walk_none s zero = refl
walk_none s (suc j) = ap (step s) (walk_none s j)

later : (a b : Bool) → b ≡ true → (a || b) ≡ true
later a b e = ap (λ (x : Bool). a || x) e ∙ or-true a

-- each of its records names an effect of the chain
named : (s : List ℕ) (k j : ℕ) (ts : List Term) → Written s k ts → ¬ (walk s (start_at (suc k) ts) j ≡ 0) → names ts (record_effect s (walk s (start_at (suc k) ts) j)) ≡ true
unfolding walk
named s k j [] w on = absurd (on (walk_none s j))
named s k zero (t ∷ rest) w on = rw (effect_read s k t.effect w.0, eq-eqb t.effect t.effect refl) refl
named s k (suc j) (t ∷ rest) w on =
    let a = along s k j t rest w in
    rw a (later (eqb t.effect (record_effect s (walk s (start_at (suc (suc k)) rest) j))) _ (named s (suc k) j rest w.3 (λ z. on (a ∙ z))))

-- and no two the same one
pub no_repeat : (s : List ℕ) (k : ℕ) (ts : List Term) → Written s k ts → Distinct ts → (i j : ℕ) → i < j → ¬ (walk s (start_at (suc k) ts) j ≡ 0) →
    record_effect s (walk s (start_at (suc k) ts) i) ≡ record_effect s (walk s (start_at (suc k) ts) j) → ⊥
unfolding walk
no_repeat s k [] w d i j h on e = on (walk_none s j)
no_repeat s k (t ∷ rest) w d i zero h on e = absurd (omega arith)
no_repeat s k (t ∷ rest) w d zero (suc j) h on e =
    let a = along s k j t rest w in
    true≢false (sym (named s (suc k) j rest w.3 (λ z. on (a ∙ z))) ∙ ap (names rest) (sym (sym (effect_read s k t.effect w.0) ∙ e ∙ ap (record_effect s) a)) ∙ d.0)
no_repeat s k (t ∷ rest) w d (suc i) (suc j) h on e =
    let a = along s k i t rest w in
    let b = along s k j t rest w in
    no_repeat s (suc k) rest w.3 d.1 i j (omega arith) (λ z. on (b ∙ z)) (ap (record_effect s) (sym a) ∙ e ∙ ap (record_effect s) b)
