-- The terms of the effects after some, as a loop over the effects meets them.
use Rattle.std.specs.Prelude.{if◌then◌else◌}
use mathlib.Core.Path.{◌≡◌, sym, ◌∙◌, ap}
use mathlib.Core.Bool.{Bool}
use mathlib.Core.List.{List, ◌∷◌, ◌++◌, append_assoc}
use Prim.Native.Nat.{ℕ, suc, ◌+◌, ◌-◌, ◌<◌}
use native.Mathlib.Numerals.{add-one}
use native.Mathlib.Omega.{arith}
use lib.Dec.{eqb}
use lib.ListN.{get_or}
use borrow.Author.Tests.{eq-eqb, ne_eqb}
use Rattle.buffer.specs.Stored.{Puts}
use Rattle.buffer.specs.declared.Cursor.{Cursor}
use Rattle.buffer.proofs.Stores.{and_then}
use Rattle.model.specs.Job.{Term}
use Rattle.model.specs.StandardForm.{rising, word_bytes, start_at, chain_bytes}
use Rattle.omissions.specs.Chained.{term_of}

module _ (factors : List ℕ) (n : ℕ) where
  -- an effect's factor
  abbrev factor : ℕ → ℕ
  factor e = get_or factors (e - 1) 0

  -- the terms of the effects after effect j, of n
  abbrev pub later : ℕ → List Term
  later j = rising factor (suc j) (n - j)

  module _ (j : ℕ) (h : j < n) where
    next : let x = get_or factors j 0 in later j ≡ (if eqb x 0 then later (j + 1) else term_of (j + 1) x ∷ later (j + 1))
    next =
        let x = get_or factors j 0 in
        let e : n - j ≡ suc (n - (j + 1)) = omega arith in
        let k : suc j - 1 ≡ j = omega arith in
        let own : factor (suc j) ≡ x = ap (λ (i : ℕ). get_or factors i 0) k in
        let a : suc j ≡ j + 1 = sym (add-one j) in
        ap (rising factor (suc j)) e
        ∙ ap (λ (y : ℕ). if eqb y 0 then rising factor (suc (suc j)) (n - (j + 1)) else term_of (suc j) y ∷ rising factor (suc (suc j)) (n - (j + 1))) own
        ∙ ap (λ (i : ℕ). if eqb x 0 then rising factor (suc i) (n - (j + 1)) else (term_of i x ∷ rising factor (suc i) (n - (j + 1)))) a

    -- effect j + 1 without a factor, and with one
    pub later_without : get_or factors j 0 ≡ 0 → later j ≡ later (j + 1)
    later_without z = next ∙ ap (λ (b : Bool). if b then later (j + 1) else term_of (j + 1) (get_or factors j 0) ∷ later (j + 1)) (eq-eqb _ 0 z)

    pub later_with : ¬ (get_or factors j 0 ≡ 0) → later j ≡ term_of (j + 1) (get_or factors j 0) ∷ later (j + 1)
    later_with z = next ∙ ap (λ (b : Bool). if b then later (j + 1) else term_of (j + 1) (get_or factors j 0) ∷ later (j + 1)) (ne_eqb _ 0 z)

-- ---- records put
-- with `rest` put too, `whole` is put
pub record Left (before : Cursor) (whole : List ℕ) (now : Cursor) (rest : List ℕ) : Type 0 where
  pub done : List ℕ
  pub puts : Puts before done now
  pub is : done ++ rest ≡ whole

some_less : {w v u : Cursor} {bs cs ds es : List ℕ} → cs ≡ ds ++ es → Puts v ds u → Left w bs v cs → Left w bs u es
some_less {ds = ds} {es = es} e put h =
    record { done = h.done ++ ds; puts = and_then h.puts put; is = append_assoc h.done ds es ∙ ap (λ (l : List ℕ). h.done ++ l) (sym e) ∙ h.is }

pub record_less : {w v u : Cursor} {bs : List ℕ} {c d e x next : ℕ} {ts rest : List Term} → ts ≡ term_of e x ∷ rest → d ≡ suc c → next ≡ start_at d rest →
    Puts v (word_bytes e ++ (word_bytes x ++ word_bytes next)) u → Left w bs v (chain_bytes c ts) → Left w bs u (chain_bytes d rest)
record_less {c = c} {d} {e} {x} {next} {ts} {rest} is number lead put left =
    some_less
    (ap (chain_bytes c) is
    ∙ ap (λ (k : ℕ). word_bytes e ++ (word_bytes x ++ (word_bytes (start_at k rest) ++ chain_bytes k rest))) (sym number)
    ∙ ap (λ (k : ℕ). word_bytes e ++ (word_bytes x ++ (word_bytes k ++ chain_bytes d rest))) (sym lead)
    ∙ sym (append_assoc (word_bytes e) (word_bytes x ++ word_bytes next) (chain_bytes d rest) ∙ ap (λ (l : List ℕ). word_bytes e ++ l) (append_assoc (word_bytes x) (word_bytes next) (chain_bytes d rest))))
    put left
