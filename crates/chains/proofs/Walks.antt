-- A walk by the record that it starts from, and the test for an effect named twice as a search along the chain makes it.
use mathlib.Core.Path.{◌≡◌, refl, sym, ◌∙◌, ap, ap₂}
use mathlib.Core.Bool.{Bool, true, false, not, ◌&&◌, ◌||◌, true≢false, and-eq-true_iff, or-true, or-false, and-false}
use mathlib.Core.List.{List}
use Prim.Native.Nat.{ℕ, zero, suc, ◌+◌, ◌-◌, ◌*◌, ◌≤◌}
use native.Mathlib.Decide.{dec_le, ℕ_discrete}
use native.Mathlib.Omega.{arith}
use lib.Dec.{eqb}
use lib.ListN.{length, get_or, set, replicate, length-set, get_or-replicate}
use lib.Seq.{get_or-set_same, get_or-set_other}
use Rattle.model.specs.Format.{bytes}
use Rattle.model.specs.declared.Part.TheVariants.{Records}
use borrow.Author.Tests.{eq-eqb, ne_eqb}
use Rattle.exact.specs.Ranges.{any_to}
use Rattle.exact.proofs.Bridge.{by_test}
use Rattle.exact.proofs.Ranges.{any_step, any_true, any_intro}
use Rattle.model.specs.Chains.{record_effect, next_record, step, walk, repeats, names_twice}
use Rattle.model.proofs.Chains.{Bounded, ended, long_repeats}
use Rattle.chains.specs.Linked.{Linked}

-- a section of n records, whose chains stay in it
pub stays : {s : List ℕ} {n c : ℕ} → Linked s → bytes Records * c ≤ length s → length s ≡ bytes Records * n → Bounded s n c
stays l h e = record { first = omega arith; next = λ c m k. omega (arith, l c m (omega arith)) }

-- a walk from the next record is a step ahead
walk_from : (s : List ℕ) (c j : ℕ) → walk s (step s c) j ≡ walk s c (suc j)
unfolding walk
walk_from s c zero = refl
walk_from s c (suc j) = ap (step s) (walk_from s c j)

-- with one visit less from the next record it is the same walk
pub walk_next : (s : List ℕ) (c left : ℕ) → ¬ (c ≡ 0) → ¬ (left ≡ 0) → walk s (next_record s c) (left - 1) ≡ walk s c left
walk_next s zero left h k = absurd (h refl)
walk_next s (suc c) zero h k = absurd (k refl)
walk_next s (suc c) (suc left) h k = let e : suc left - 1 ≡ left = omega arith in rw e (walk_from s (suc c) left)

-- no record, no walk
pub walk_none : (s : List ℕ) (c left : ℕ) → c ≡ 0 → walk s c left ≡ 0
unfolding walk
walk_none s c left e = ended s c 0 left e (omega arith)

pub walk_start : (s : List ℕ) (c left : ℕ) → left ≡ 0 → walk s c left ≡ c
unfolding walk
walk_start s c left e = rw e refl

-- effect e is named before step j
abbrev named : List ℕ → (c j e : ℕ) → Bool
named s c j e = any_to j (λ i. eqb (record_effect s (walk s c i)) e)

-- step j is on the chain and its effect is named before
abbrev again : List ℕ → (c j : ℕ) → Bool
again s c j = not (eqb (walk s c j) 0) && named s c j (record_effect s (walk s c j))

-- the walk from c stands at step j, on this record, with the effects before it flagged, none named twice
pub record Walked (s : List ℕ) (c j at : ℕ) (seen : List Bool) : Type 0 where
  pub here : at ≡ walk s c j
  pub flags : length seen ≡ 17
  pub flagged : (e : ℕ) → e ≤ 16 → get_or seen e false ≡ named s c j e
  pub once : any_to j (again s c) ≡ false

pub walked_none : (s : List ℕ) (c : ℕ) → Walked s c 0 c (replicate 17 false)
walked_none s c = record { here = sym (walk_start s c 0 refl); flags = refl; flagged = λ e h. get_or-replicate 17 e false false (omega arith); once = refl }

module _ {s : List ℕ} {c j at : ℕ} {seen : List Bool} (w : Walked s c j at seen) where
  -- the chain is over: it names no effect twice
  pub walked_all : (n : ℕ) → at ≡ 0 → names_twice s n c ≡ false
  unfolding names_twice repeats
  walked_all n z = by_test (any_to (suc n) (again s c)) (λ b. b ≡ false) (λ t. let r = any_true (suc n) (again s c) t in absurd (found r.0 r.2)) (λ _. refl)
    where
      found : (i : ℕ) → ¬ (again s c i ≡ true)
      found i t = elim (dec_le j i) [
        | yes h ↦ true≢false (sym ((and-eq-true_iff (not (eqb (walk s c i) 0)) _).0 t).0 ∙ ap not (eq-eqb _ _ (ended s c j i (sym w.here ∙ z) h)))
        | no h ↦ true≢false (sym (any_intro j (again s c) i (omega arith) t) ∙ w.once)
      ]

  -- it has passed as many records as there are: it names one twice where it goes on
  pub walked_past : {n : ℕ} → Bounded s n c → j ≡ n → not (eqb at 0) ≡ names_twice s n c
  unfolding names_twice
  walked_past {n} m e = elim (ℕ_discrete at 0) [
    | yes z ↦ ap not (eq-eqb _ _ z) ∙ sym (walked_all n z)
    | no long ↦ ap not (ne_eqb _ _ long) ∙ sym (long_repeats s n c m (λ z. long (w.here ∙ ap (walk s c) e ∙ z)) (record_effect s))
  ]

  -- it is on a record, and e is the record's effect
  module _ {e : ℕ} (on : ¬ (at ≡ 0)) (read : e ≡ record_effect s at) (few : e ≤ 16) where
    is : e ≡ record_effect s (walk s c j)
    is = read ∙ ap (record_effect s) w.here

    flag : get_or seen e false ≡ named s c j (record_effect s (walk s c j))
    flag = w.flagged e few ∙ ap (named s c j) is

    -- e is flagged
    pub walked_twice : {n : ℕ} → j ≤ n → get_or seen e false ≡ true → names_twice s n c ≡ true
    unfolding names_twice repeats
    walked_twice {n} h t = any_intro (suc n) (again s c) j (omega arith) ((and-eq-true_iff _ _).1 (ap not (ne_eqb _ _ (λ z. on (w.here ∙ z))), sym flag ∙ t))

    -- it is not: it is now, and the walk goes on
    pub walked_on : {next : ℕ} → get_or seen e false ≡ false → next ≡ next_record s at → Walked s c (j + 1) next (set seen e true)
    unfolding walk
    walked_on f g = record {
      here = let k : j + 1 ≡ suc j = omega arith in rw k (g ∙ stepped at on ∙ ap (step s) w.here);
      flags = simp length-set w.flags;
      flagged = λ k h. elim (ℕ_discrete k e) [
        | yes p ↦ rw p (get_or-set_same seen e true false (omega (arith, w.flags)) ∙ sym (any_step j _ ∙ ap (λ (b : Bool). named s c j e || b) (eq-eqb _ e (sym is)) ∙ or-true (named s c j e)))
        | no p ↦
            get_or-set_other seen e k true false p ∙ w.flagged k h
            ∙ sym (any_step j _ ∙ ap (λ (b : Bool). named s c j k || b) (ne_eqb _ k (λ q. p (sym q ∙ sym is))) ∙ or-false (named s c j k))
      ];
      once = any_step j (again s c) ∙ ap₂ ◌||◌ w.once (ap (λ (b : Bool). not (eqb (walk s c j) 0) && b) (sym flag ∙ f) ∙ and-false (not (eqb (walk s c j) 0)));
    }
      where
        stepped : (k : ℕ) → ¬ (k ≡ 0) → next_record s k ≡ step s k
        stepped zero h = absurd (h refl)
        stepped (suc k) h = refl
