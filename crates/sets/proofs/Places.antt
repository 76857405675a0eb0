-- The lanes' places are 0, 1, 2 .., each once, and follow their values.
use Rattle.std.specs.Prelude.{if◌then◌else◌}
use mathlib.Core.Path.{◌≡◌, refl, sym, ◌∙◌, ap, ap₂, subst}
use mathlib.Core.Bool.{Bool, true, false, not, ◌&&◌}
use Prim.Native.Nat.{ℕ, zero, suc, ◌+◌, ◌-◌, ◌≤◌, ◌<◌}
use native.Mathlib.Decide.{dec_le}
use native.Mathlib.Numerals.{add-one}
use native.Mathlib.Omega.{arith}
use lib.IntN.{ℤ}
use lib.Dec.{ltb, eqb}
use borrow.Author.Tests.{ltb-true, ltb-false, not-true, not-false, eqb-true, eqb-false, lt-ltb, le-ltb}
use Rattle.exact.specs.Questions.{beats, NoBetter}
use Rattle.exact.specs.Ranges.{count_to}
use Rattle.exact.specs.declared.Question.{Question}
use Rattle.exact.specs.declared.Question.TheVariants.{Greatest, Least}
use Rattle.exact.proofs.Bridge.{by_test, order}
use Rattle.exact.proofs.Tests.{lt_z_true}
use Rattle.exact.proofs.Extremes.{no_better_refl, no_better_trans, beats_yes, beats_no}
use Rattle.exact.proofs.Ranges.{count_cong}
use Rattle.exact.proofs.Counting.{one, and_cong, and_true, and_intro, count_less, count_without, skip, count_insert}
use Rattle.exact.proofs.Weights.{count_part, count_le}
use Rattle.sets.specs.Sets.{precedes, rank}

pub beats_strict : (q : Question) (x y : ℤ) → beats q x y ≡ true → ¬ NoBetter q x y
beats_strict Greatest x y e h = let k = lt_z_true y x e in omega (arith, order)
beats_strict Least x y e h = let k = lt_z_true x y e in omega (arith, order)

-- what `precedes` says
pub record Precedes (q : Question) (v : ℕ → ℤ) (k i : ℕ) : Type 0 where
  pub no_worse : NoBetter q (v i) (v k)
  pub tied : i ≤ k → ¬ NoBetter q (v k) (v i)

module _ (q : Question) (v : ℕ → ℤ) where
  pub precedes_true : (k i : ℕ) → precedes q v k i ≡ true → Precedes q v k i
  precedes_true k i =
      by_test (ltb k i) (λ t. (if t then not (beats q (v i) (v k)) else beats q (v k) (v i)) ≡ true → Precedes q v k i)
      (λ l e. let h = ltb-true k i l in record { no_worse = (beats_no q (v i) (v k) (not-true _ e)).0; tied = λ m. absurd (omega arith) })
      (λ l e. record { no_worse = (beats_yes q (v k) (v i) e).0; tied = λ m. beats_strict q (v k) (v i) e })

  pub precedes_false : (k i : ℕ) → precedes q v k i ≡ false → ¬ (k ≡ i) → Precedes q v i k
  precedes_false k i =
      by_test (ltb k i) (λ t. (if t then not (beats q (v i) (v k)) else beats q (v k) (v i)) ≡ false → ¬ (k ≡ i) → Precedes q v i k)
      (λ l e d. record { no_worse = (beats_yes q (v i) (v k) (not-false _ e)).0; tied = λ m. beats_strict q (v i) (v k) (not-false _ e) })
      (λ l e d. let h = ltb-false k i l in record { no_worse = (beats_no q (v k) (v i) e).0; tied = λ m. absurd (d (omega arith)) })

  precedes_not : (k i : ℕ) → Precedes q v k i → Precedes q v i k → ⊥
  precedes_not k i a b = elim (dec_le i k) [ yes l ↦ a.tied l b.no_worse | no l ↦ b.tied (omega arith) a.no_worse ]

  pub precedes_itself : (i : ℕ) → precedes q v i i ≡ false
  precedes_itself i = by_test (precedes q v i i) (λ t. t ≡ false) (λ e. let b = precedes_true i i e in absurd (precedes_not i i b b)) (λ _. refl)

  precedes_intro : (k i : ℕ) → Precedes q v k i → precedes q v k i ≡ true
  precedes_intro k i b =
      by_test (precedes q v k i) (λ t. t ≡ true) (λ _. refl)
      (λ e. elim (dec_le i k) [
        | yes l ↦ absurd (precedes_not k i b (precedes_false k i e (λ s. b.tied l (subst (λ (j : ℕ). NoBetter q (v k) (v j)) s (no_better_refl q (v k))))))
        | no l ↦ absurd (precedes_not k i b (precedes_false k i e (λ s. omega arith)))
      ])

  precedes_trans : (a b c : ℕ) → precedes q v a b ≡ true → precedes q v b c ≡ true → precedes q v a c ≡ true
  precedes_trans a b c x y = precedes_intro a c (record { no_worse = no_better_trans q _ _ _ g.no_worse f.no_worse; tied = λ l s. last l s })
    where
      f : Precedes q v a b
      f = precedes_true a b x

      g : Precedes q v b c
      g = precedes_true b c y

      last : c ≤ a → NoBetter q (v a) (v c) → ⊥
      last l s = elim (dec_le b a) [
        | yes m ↦ f.tied m (no_better_trans q _ _ _ s g.no_worse)
        | no m ↦ g.tied (omega arith) (no_better_trans q _ _ _ f.no_worse s)
      ]

  -- ---- places among the lanes of A
  module _ (A : ℕ → Bool) where
    abbrev ahead : ℕ → ℕ → Bool
    ahead i k = A k && precedes q v k i

    -- how many of the first n lanes of A precede lane i
    abbrev pub place_in : ℕ → ℕ → ℕ
    place_in n i = count_to n (ahead i)

    -- who precedes i precedes whom i precedes
    ahead_more : (n i k : ℕ) → precedes q v i k ≡ true → (j : ℕ) → j < n → ahead i j ≡ true → ahead k j ≡ true
    ahead_more n i k e j l h = let p = and_true (A j) (precedes q v j i) h in and_intro (A j) _ p.0 (precedes_trans j i k p.1 e)

    pub place_less : (n i k : ℕ) → i < n → A i ≡ true → precedes q v i k ≡ true → place_in n i < place_in n k
    place_less n i k l a e =
        count_less n (ahead i) (ahead k) (ahead_more n i k e) i l (ap (λ (t : Bool). A i && t) (precedes_itself i) ∙ none (A i)) (and_intro (A i) _ a e)
      where
        none : (t : Bool) → (t && false) ≡ false
        none true = refl
        none false = refl

    place_le : (n i k : ℕ) → precedes q v i k ≡ true → place_in n i ≤ place_in n k
    place_le n i k e = count_part n (ahead i) (ahead k) (ahead_more n i k e)

    pub place_no_less : (n i k : ℕ) → precedes q v i k ≡ false → place_in n k ≤ place_in n i
    place_no_less n i k e =
        by_test (eqb i k) (λ t. eqb i k ≡ t → place_in n k ≤ place_in n i)
        (λ s _. rw (eqb-true i k s) (omega arith))
        (λ d _. place_le n k i (precedes_intro k i (precedes_false i k e (eqb-false i k d)))) refl

    -- a lower place is no worse a value
    pub place_order : (n i k : ℕ) → place_in n i < place_in n k → NoBetter q (v k) (v i)
    place_order n i k h =
        by_test (precedes q v i k) (λ t. precedes q v i k ≡ t → NoBetter q (v k) (v i))
        (λ e _. (precedes_true i k e).no_worse)
        (λ e _. absurd (let l = place_no_less n i k e in omega arith)) refl

    -- places are below the number of lanes
    pub place_below : (n i : ℕ) → i < n → A i ≡ true → place_in n i < count_to n A
    place_below n i l a =
        count_less n (ahead i) A (λ k m h. (and_true (A k) _ h).0) i l (ap (λ (t : Bool). A i && t) (precedes_itself i) ∙ ap (λ (t : Bool). t && false) a) a

    -- lane n put in: at its own place, and those behind it move up
    own : (n : ℕ) → place_in (suc n) n ≡ place_in n n
    own n = rw (precedes_itself n) (none (A n))
      where
        none : (t : Bool) → count_to n (ahead n) + one (t && false) ≡ count_to n (ahead n)
        none true = omega arith
        none false = omega arith

    out : (n i : ℕ) → A n ≡ false → place_in (suc n) i ≡ place_in n i
    out n i a = rw a (omega arith)

    moved : (n i : ℕ) → i < n → A i ≡ true → A n ≡ true → place_in (suc n) i ≡ skip (place_in n n) (place_in n i)
    moved n i l ai an =
        by_test (precedes q v i n) (λ t. precedes q v i n ≡ t → place_in (suc n) i ≡ skip (place_in n n) (place_in n i))
        (λ e _. rw (an, ahead_not e, lt-ltb _ _ (place_less n i n l ai e)) (omega arith))
        (λ e _. let b = precedes_intro n i (precedes_false i n e (λ s. omega arith)) in rw (an, b, le-ltb _ _ (place_le n n i b)) (omega arith)) refl
      where
        ahead_not : precedes q v i n ≡ true → precedes q v n i ≡ false
        ahead_not e = by_test (precedes q v n i) (λ t. t ≡ false) (λ f. absurd (precedes_not i n (precedes_true i n e) (precedes_true n i f))) (λ _. refl)

    -- each place below the number of lanes is some lane's, and one's only: as many lanes pass a test of their places as places do
    pub places_count : (n : ℕ) (g : ℕ → Bool) → count_to n (λ i. A i && g (place_in n i)) ≡ count_to (count_to n A) g
    places_count zero g = refl
    places_count (suc n) g =
        by_test (A n) (λ t. A n ≡ t → count_to n (λ i. A i && g (place_in (suc n) i)) + one (t && g (place_in (suc n) n)) ≡ count_to (count_to n A + one t) g)
        (λ a _.
        ap₂ (λ (x : ℕ) (p : ℕ). x + one (g p)) (count_cong n _ _ (λ i l. and_cong (A i) (λ ai. ap g (moved n i l ai a)))) (own n)
        ∙ ap (λ (x : ℕ). x + one (g (place_in n n))) (places_count n (λ j. g (skip (place_in n n) j)))
        ∙ count_insert (count_to n A) (place_in n n) g (count_part n (ahead n) A (λ k m h. (and_true (A k) _ h).0))
        ∙ ap (λ (m : ℕ). count_to m g) (sym (add-one (count_to n A))))
        (λ a _.
        ap (λ (x : ℕ). x + 0) (count_cong n _ _ (λ i l. ap (λ (p : ℕ). A i && g p) (out n i a)) ∙ places_count n g)
        ∙ plain (count_to n A)) refl
      where
        plain : (m : ℕ) → count_to m g + 0 ≡ count_to (m + 0) g
        plain m = let e : m + 0 ≡ m = omega arith in rw e (omega arith)

-- ---- places among the lanes but o
-- lane i's place there
unfoldable pub place : Question → (n : ℕ) → (v : ℕ → ℤ) → (o i : ℕ) → ℕ
place q n v o i = place_in q v (λ k. not (eqb k o)) n i

-- by rank: those behind o come one sooner
pub rank_beside : (q : Question) (v : ℕ → ℤ) (n o i : ℕ) → o < n → (if ltb (rank q n v o) (rank q n v i) then rank q n v i - 1 else rank q n v i) ≡ place q n v o i
unfolding rank place
rank_beside q v n o i h =
    let e = count_without n o (λ k. precedes q v k i) h in
    by_test (precedes q v o i) (λ t. count_to n (λ k. not (eqb k o) && precedes q v k i) + one t ≡ count_to n (λ k. precedes q v k i) → (if ltb (rank q n v o) (rank q n v i) then rank q n v i - 1 else rank q n v i) ≡ place q n v o i)
    (λ t e. rw (lt-ltb _ _ (place_less q v (λ k. true) n o i h refl t)) (omega arith))
    (λ t e. rw (le-ltb _ _ (place_no_less q v (λ k. true) n o i t)) (omega arith)) e

-- at most as many precede a lane as there are
pub rank_few : (q : Question) (n : ℕ) (v : ℕ → ℤ) (i : ℕ) → rank q n v i ≤ n
unfolding rank
rank_few q n v i = count_le n (λ k. precedes q v k i)
