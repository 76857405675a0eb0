-- Demand 3 for the limit states: no row, with any omission and any traffic, beats the state's value; and when a row's omissions attain its best.
use Rattle.std.specs.Prelude.{if◌then◌else◌, Option, None, Some}
use mathlib.Core.Path.{◌≡◌, refl, sym, ◌∙◌, ap, ap₂, subst}
use mathlib.Core.Bool.{Bool, true, false, ◌&&◌, false≢true, true≢false}
use Rattle.std.proofs.lemmas.Option.{none-some, same_Some}
use mathlib.Core.List.{List, [], ◌∷◌}
use Prim.Native.Nat.{ℕ, zero, suc, ◌≤◌}
use native.Mathlib.Decide.{dec_le}
use native.Mathlib.Omega.{arith}
use lib.IntN.{ℤ, pos, ◌+ℤ◌, ◌*ℤ◌}
use Rattle.exact.specs.Questions.{better, beats, NoBetter}
use Rattle.exact.specs.declared.Question.{Question}
use Rattle.exact.proofs.Bridge.{by_test}
use Rattle.exact.proofs.Exact.{◌⊗◌, lit, ◌≐◌, solve}
use Rattle.exact.proofs.Extremes.{no_better_refl, no_better_trans, no_better_antisym, no_better_add, no_better_scale, extreme_bounds, better_left, better_right, better_least, beats_yes, beats_no}
use Rattle.model.specs.Job.{Effect, Term, Row, Limit, service, ultimate, Live, Job}
use Rattle.model.specs.Traffic.{traffic_value}
use Rattle.model.specs.Rows.{share, chain_value, row_value, MayOmit, best_chain, best_row, Governs, later_if_better, is_of, governing, state_value}
use Rattle.model.specs.Arrangements.{Arrangement, arranged, Lawful}
use Rattle.model.specs.Answered.{RowOf}
use Rattle.model.proofs.Lanes.{Spaced}
use Rattle.model.proofs.LineLimits.{OneSigned}
use Rattle.model.proofs.Unbeaten.{unbeaten}

-- ---- a row
module _ (q : Question) (effect : ℕ → Effect) where
  -- what a chain record gives at best
  abbrev best_share : Term → ℤ
  best_share t = if (effect t.effect).optional then better q (pos 0) (share effect t) else share effect t

  share_bound : (x : ℤ) (o m : Bool) → (o ≡ true → m ≡ true) → NoBetter q (if o then pos 0 else x) (if m then better q (pos 0) x else x)
  share_bound x true true h = better_left q (pos 0) x
  share_bound x true false h = absurd (false≢true (h refl))
  share_bound x false true h = better_right q (pos 0) x
  share_bound x false false h = no_better_refl q x

  -- no omission of effects marked 2 beats a chain's best
  chain_bound : (omits : ℕ → Bool) (l : List Term) → ((e : ℕ) → omits e ≡ true → (effect e).optional ≡ true) → NoBetter q (chain_value effect omits l) (best_chain q effect l)
  unfolding chain_value best_chain
  chain_bound omits [] h = no_better_refl q (pos 0)
  chain_bound omits (t ∷ l) h =
      no_better_add q _ (best_share t) _ _ (share_bound (share effect t) (omits t.effect) (effect t.effect).optional (h t.effect)) (chain_bound omits l h)

  -- nor, with traffic that does not beat the best or none at all, a row's by any alternative
  row_bound : (traffic : Live → ℤ) (row : Row) (a : ℕ) (omits : ℕ → Bool) (x : ℤ) → a ≤ row.others → MayOmit effect (row.chain a) omits →
      NoBetter q (pos row.factor *ℤ x) (better q (pos 0) (pos row.factor *ℤ traffic row.live)) → NoBetter q (row_value effect row a omits x) (best_row q effect traffic row)
  unfolding row_value best_row
  row_bound traffic row a omits x among may h =
      no_better_add q _ _ _ _ (no_better_trans q _ (best_chain q effect (row.chain a)) _ (chain_bound omits (row.chain a) (λ e t. (may e t).1)) (extreme_bounds q row.others (λ b. best_chain q effect (row.chain b)) a among)) h

  -- ---- and when it is attained
  -- an omission that suits a chain record: left out only where it may be and does not help, kept only where it must be or does not harm
  pub record Suits (omits : ℕ → Bool) (t : Term) : Type 0 where
    pub left : omits t.effect ≡ true → ((effect t.effect).optional ≡ true) × NoBetter q (share effect t) (pos 0)
    pub kept : omits t.effect ≡ false → (effect t.effect).optional ≡ true → NoBetter q (pos 0) (share effect t)

  -- and every record of a chain
  abbrev pub SuitsAll : (ℕ → Bool) → List Term → Type 0
  SuitsAll omits [] = Unit {0}
  SuitsAll omits (t ∷ l) = Suits omits t × SuitsAll omits l

  -- as where an effect is left out exactly if it may be and its share strictly worsens the value
  pub suits_share : (omits : ℕ → Bool) (t : Term) → omits t.effect ≡ ((effect t.effect).optional && beats q (pos 0) (share effect t)) → Suits omits t
  suits_share omits t = go (effect t.effect).optional (beats q (pos 0) (share effect t)) refl refl
    where
      go : (m b : Bool) → (effect t.effect).optional ≡ m → beats q (pos 0) (share effect t) ≡ b → omits t.effect ≡ (m && b) → Suits omits t
      go true true em eb eo = record { left = λ _. (em, (beats_yes q (pos 0) (share effect t) eb).0); kept = λ f. absurd (true≢false (sym eo ∙ f)) }
      go true false em eb eo = record { left = λ f. absurd (false≢true (sym eo ∙ f)); kept = λ _ _. (beats_no q (pos 0) (share effect t) eb).0 }
      go false b em eb eo = record { left = λ f. absurd (false≢true (sym eo ∙ f)); kept = λ _ f. absurd (false≢true (sym em ∙ f)) }

  better_is : (x y : ℤ) → NoBetter q x y → (better q x y ≡ y) × (better q y x ≡ y)
  better_is x y h = (
    no_better_antisym q (better q x y) y (better_least q x y y h (no_better_refl q y)) (better_right q x y),
    no_better_antisym q (better q y x) y (better_least q y x y (no_better_refl q y) h) (better_left q y x),
  )

  share_attained : (omits : ℕ → Bool) (t : Term) → Suits omits t → (if omits t.effect then pos 0 else share effect t) ≡ best_share t
  share_attained omits t s = go (omits t.effect) (effect t.effect).optional refl refl
    where
      x : ℤ
      x = share effect t

      go : (o m : Bool) → omits t.effect ≡ o → (effect t.effect).optional ≡ m → (if o then pos 0 else x) ≡ (if m then better q (pos 0) x else x)
      go true true eo em = sym (better_is x (pos 0) (s.left eo).1).1
      go true false eo em = absurd (false≢true (sym em ∙ (s.left eo).0))
      go false true eo em = sym (better_is (pos 0) x (s.kept eo em)).0
      go false false eo em = refl

  -- omissions that suit every record give the chain's best
  pub chain_attained : (omits : ℕ → Bool) (l : List Term) → SuitsAll omits l → chain_value effect omits l ≡ best_chain q effect l
  unfolding chain_value best_chain
  chain_attained omits [] s = refl
  chain_attained omits (t ∷ l) s = ap₂ ◌+ℤ◌ (share_attained omits t s.0) (chain_attained omits l s.1)

-- ---- a state
-- x does not beat the governing value, and there is one
abbrev Bounds : Question → ℤ → Option Governs → Type 0
Bounds q x None = ⊥
Bounds q x (Some g) = NoBetter q x g.value

is_itself : (l : Limit) → is_of l l ≡ true
is_itself service = refl
is_itself ultimate = refl

is_same : (l m : Limit) → is_of l m ≡ true → m ≡ l
is_same service service e = refl
is_same service ultimate e = absurd (false≢true e)
is_same ultimate service e = absurd (false≢true e)
is_same ultimate ultimate e = refl

-- the better of a state's rows so far and a later one bounds both
later_bounds : (q : Question) (sofar : Option Governs) (g : Governs) → Bounds q g.value (later_if_better q sofar g) × ((x : ℤ) → Bounds q x sofar → Bounds q x (later_if_better q sofar g))
later_bounds q None g = (no_better_refl q g.value, λ x h. absurd h)
later_bounds q (Some s) g =
    by_test (beats q g.value s.value) (λ t. let r = if t then Some g else Some s in Bounds q g.value r × ((x : ℤ) → Bounds q x (Some s) → Bounds q x r))
    (λ e. (no_better_refl q g.value, λ x h. no_better_trans q x s.value g.value h (beats_yes q g.value s.value e).0))
    (λ e. ((beats_no q g.value s.value e).0, λ x h. h))

-- and is one of them
later_one : (q : Question) (P : Governs → Type 0) (sofar : Option Governs) (g : Governs) → ((s : Governs) → sofar ≡ Some s → P s) → P g → (r : Governs) → later_if_better q sofar g ≡ Some r → P r
later_one q P None g before now r e = subst P (same_Some _ _ e) now
later_one q P (Some s) g before now r e =
    by_test (beats q g.value s.value) (λ t. (if t then Some g else Some s) ≡ Some r → P r)
    (λ _ e. subst P (same_Some _ _ e) now)
    (λ _ e. subst P (same_Some _ _ e) (before s refl)) e

-- a row of the state, with its value
record StateRow (row : ℕ → Row) (value : ℕ → ℤ) (limit : Limit) (n : ℕ) (g : Governs) : Type 0 where
  first : 1 ≤ g.row
  last : g.row ≤ n
  state : (row g.row).limit ≡ limit
  its : g.value ≡ value g.row

module _ (q : Question) (row : ℕ → Row) (value : ℕ → ℤ) (limit : Limit) where
  abbrev now : ℕ → Governs
  now n = record { value = value (suc n); row = suc n }

  -- the governing value bounds each row's
  governs_all : (n r : ℕ) → 1 ≤ r → r ≤ n → (row r).limit ≡ limit → Bounds q (value r) (governing q row value limit n)
  unfolding governing
  governs_all zero r h l e = absurd (omega arith)
  governs_all (suc n) r h l e =
      let later = later_bounds q (governing q row value limit n) (now n) in
      elim (dec_le r n) [
        | yes k ↦ either_state (is_of limit (row (suc n)).limit) (governs_all n r h k e) (later.1 (value r))
        | no k ↦
            let f : suc n ≡ r = omega arith in
            let t : is_of limit (row (suc n)).limit ≡ true = ap (is_of limit) (ap (λ (x : ℕ). (row x).limit) f ∙ e) ∙ is_itself limit in
            rw t (subst (λ (x : ℕ). Bounds q (value x) (later_if_better q (governing q row value limit n) (now n))) f later.0)
      ]
    where
      either_state : (t : Bool) → Bounds q (value r) (governing q row value limit n) → (Bounds q (value r) (governing q row value limit n) → Bounds q (value r) (later_if_better q (governing q row value limit n) (now n))) →
          Bounds q (value r) (if t then later_if_better q (governing q row value limit n) (now n) else governing q row value limit n)
      either_state true b f = f b
      either_state false b f = b

  -- and is one row's
  governs_one : (n : ℕ) (g : Governs) → governing q row value limit n ≡ Some g → StateRow row value limit n g
  unfolding governing
  governs_one zero g e = absurd (none-some _ e)
  governs_one (suc n) g e = go (governs_one n) (is_of limit (row (suc n)).limit) refl e
    where
      wider : (s : Governs) → StateRow row value limit n s → StateRow row value limit (suc n) s
      wider s o = let l = o.last in record { first = o.first; last = omega arith; state = o.state; its = o.its }

      go : ((s : Governs) → governing q row value limit n ≡ Some s → StateRow row value limit n s) → (t : Bool) → is_of limit (row (suc n)).limit ≡ t →
          (if t then later_if_better q (governing q row value limit n) (now n) else governing q row value limit n) ≡ Some g → StateRow row value limit (suc n) g
      go less true t e =
          later_one q (StateRow row value limit (suc n)) (governing q row value limit n) (now n) (λ s f. wider s (less s f))
          (record { first = omega arith; last = omega arith; state = is_same limit (row (suc n)).limit t; its = refl }) g e
      go less false t e = wider g (less g e)

-- a state without a value has no row
pub no_row : (q : Question) (job : Job) (limit : Limit) → state_value q job limit ≡ None → (r : ℕ) → RowOf job limit r → ⊥
no_row q job limit e r of = subst (Bounds q _) e (governs_all q job.row _ limit job.rows r of.first of.last of.state)

-- a state's value
module _ (q : Question) (job : Job) (limit : Limit) (g : Governs) (is-value : state_value q job limit ≡ Some g) where
  -- is the best value of its row, which is of the state
  pub governing_row : RowOf job limit g.row × (g.value ≡ best_row q job.effect (traffic_value q job) (job.row g.row))
  governing_row = let o = governs_one q job.row _ limit job.rows g is-value in (record { first = o.first; last = o.last; state = o.state }, o.its)

  under : (r a : ℕ) (out : ℕ → Bool) (x : ℤ) → RowOf job limit r → a ≤ (job.row r).others → MayOmit job.effect ((job.row r).chain a) out →
      NoBetter q (pos (job.row r).factor *ℤ x) (better q (pos 0) (pos (job.row r).factor *ℤ traffic_value q job (job.row r).live)) → NoBetter q (row_value job.effect (job.row r) a out x) g.value
  under r a out x of among may h =
      no_better_trans q _ (best_row q job.effect (traffic_value q job) (job.row r)) _ (row_bound q job.effect (traffic_value q job) (job.row r) a out x among may h)
      (subst (Bounds q _) is-value (governs_all q job.row _ limit job.rows r of.first of.last of.state))

  -- and is beaten by no row of the state, with any omission and the traffic left out
  pub unbeaten_unladen_lem : (r a : ℕ) (out : ℕ → Bool) → RowOf job limit r → a ≤ (job.row r).others → MayOmit job.effect ((job.row r).chain a) out → NoBetter q (row_value job.effect (job.row r) a out (pos 0)) g.value
  unbeaten_unladen_lem r a out of among may =
      let f = (job.row r).factor in
      let t = traffic_value q job (job.row r).live in
      under r a out (pos 0) of among may (subst (λ (x : ℤ). NoBetter q x (better q (pos 0) (pos f *ℤ t))) (solve 1 (λ f. lit 0 ≐ f ⊗ lit 0) tt (pos f)) (better_left q (pos 0) (pos f *ℤ t)))

  -- nor with any arrangement of the row's live kind
  pub unbeaten_laden : OneSigned job.line → Spaced job →
      (r a : ℕ) (out : ℕ → Bool) (k : ℕ) (w : Arrangement) → RowOf job limit r → a ≤ (job.row r).others → MayOmit job.effect ((job.row r).chain a) out → Lawful job (job.row r).live k w →
      NoBetter q (row_value job.effect (job.row r) a out (arranged q job (job.row r).live k w)) g.value
  unbeaten_laden signed spaced r a out k w of among may law =
      let f = (job.row r).factor in
      let t = traffic_value q job (job.row r).live in
      under r a out (arranged q job (job.row r).live k w) of among may
      (no_better_trans q _ (pos f *ℤ t) _ (no_better_scale q f _ t (unbeaten q job (job.row r).live k w signed spaced law)) (better_right q (pos 0) (pos f *ℤ t)))
