-- Refusals 2 and 11: a job without them has each header word within its limits, and a rural bridge its width.
use Rattle.std.specs.Prelude.{if◌then◌else◌, None}
use mathlib.Core.Path.{◌≡◌, refl, ◌∙◌, ap, subst}
use mathlib.Core.Logic.{inl, inr}
use mathlib.Core.Bool.{true, false, and-eq-true_iff}
use mathlib.Core.List.{List, [], ◌∷◌}
use Prim.Native.Nat.{ℕ, ◌+◌, ◌*◌, ◌/◌, ◌≤◌, ◌<◌}
use native.Mathlib.Omega.{arith}
use borrow.Author.Tests.{eqb-true}
use lib.IntN.{ℤ, pos, ◌*ℤ◌}
use lib.Dec.{eqb}
use lib.ListN.{length, get_or}
use native.Mathlib.Nat.{mul-zero}
use lib.Signed.{◌≤ℤ◌, le_z}
use Rattle.exact.specs.Choice.{between}
use Rattle.exact.specs.Parts.{up}
use Rattle.exact.specs.declared.Question.{Question}
use Rattle.exact.specs.declared.Question.TheVariants.{Least}
use Rattle.exact.proofs.Bridge.{by_test, ≤→ℕ}
use Rattle.exact.proofs.Extremes.{by_question}
use Rattle.exact.proofs.Tests.{le_z_true}
use Rattle.words.specs.Words.{word_at, count_at}
use Rattle.words.specs.Fields.{free, range, ◌of◌, item_from, misfit}
use Rattle.model.specs.Format.{profile_of, second_width, header_of, is, dynamic_kinds, span_fits, dynamic_fits, least_span_fits, table_counts, format, words, section_of}
use Rattle.model.specs.Job.{Profile, highway, rural}
use Rattle.model.specs.Decode.{dynamic_value, decode}
use Rattle.model.specs.Dynamic.{dynamic_factor}
use Rattle.model.specs.Refusals.{fault2, width_test, fault11}
use Rattle.model.specs.declared.Edition.{Edition}
use Rattle.model.specs.declared.Edition.TheVariants.{First, Second, Third, Fourth}
use Rattle.model.specs.declared.Part.TheVariants.{Head}
use Rattle.model.proofs.Verdict.{header_long}
use Rattle.model.proofs.Counts.{Count, wider, between_count, is_number, past_three, OneOf, one_of_lem}
use Rattle.model.proofs.Sections.{section_word}
use Rattle.model.proofs.Dynamic.{span_range}
use Rattle.words.proofs.Fits.{or_none, moved_none, fits}

-- a dynamic kind with a value of its own
pub data DynamicRight (kind value : ℕ) : Type 0 where
  read : kind ≡ 1 → 1000 ≤ value → value ≤ 1300 → DynamicRight kind value
  buried : kind ≡ 2 → value ≡ 0 → DynamicRight kind value
  culvert : kind ≡ 3 → value ≤ 5000 → DynamicRight kind value
  span : kind ≡ 4 → 1 ≤ value → value ≤ 2000 → DynamicRight kind value

-- one carriageway; or two, of edition 3, the second with a width within its limits
pub data Carriageways (b : List ℕ) : Type 0 where
  one : (header_of b).second ≡ 0 → Carriageways b
  two : (header_of b).edition ≡ Third → 300 ≤ (header_of b).second → (header_of b).second ≤ 2079 → Carriageways b

-- either way at most 2079
pub second_most : {b : List ℕ} → Carriageways b → (header_of b).second ≤ 2079
second_most (one e) = omega arith
second_most (two e l m) = m

-- each header word within its limits
pub record HeaderFits (b : List ℕ) : Type 0 where
  pub length : OneOf (1 ∷ 2 ∷ 5 ∷ 10 ∷ 25 ∷ 50 ∷ []) (header_of b).h
  pub length_is : word_at b 1 ≡ pos (header_of b).h
  pub pieces : Count 1 1000 (word_at b 2)
  pub reach : (header_of b).pieces * (header_of b).h ≤ 1000
  pub spacing : Count 10 50 (word_at b 3)
  pub wide : Count 300 2079 (word_at b 4)
  pub dynamic : (q : Question) → DynamicRight (count_at b 5) (dynamic_value b (header_of b) q)
  -- kind 4 is of an edition that has word 10
  pub kind4 : count_at b 5 ≡ 4 → 10 < words (header_of b) Head
  pub effects : Count 0 16 (word_at b 7)
  pub rows : Count 0 32 (word_at b 8)
  pub records : Count 0 512 (word_at b 9)
  -- a rural bridge's eleven effects, and no rows of its own
  pub eleven : profile_of (header_of b).edition ≡ rural → count_at b 7 ≡ 11
  pub unlisted : profile_of (header_of b).edition ≡ rural → count_at b 8 ≡ 0
  pub carriageways : Carriageways b

not_rural : highway ≡ rural → ⊥
not_rural e = subst (λ (p : Profile). elim p as (λ _. Type 0) [ highway ↦ Unit {0} | rural ↦ ⊥ ]) e tt

-- words 5 and 6
dynamic_words : (x y : ℤ) → Count 1 4 x → dynamic_fits x y ≡ true → DynamicRight (up x) (up y)
dynamic_words x y c =
    by_test (is 1 x) (λ t. (if t then between (pos 1000) (pos 1300) y else (if is 2 x then is 0 y else (if is 3 x then between (pos 0) (pos 5000) y else span_fits y))) ≡ true → DynamicRight (up x) (up y))
    (λ t e. let v = between_count 1000 1300 y e in read (is_number 1 x t) v.least v.most)
    (by_test (is 2 x) (λ t. is 1 x ≡ false → (if t then is 0 y else (if is 3 x then between (pos 0) (pos 5000) y else span_fits y)) ≡ true → DynamicRight (up x) (up y))
    (λ t _ e. let v = between_count 0 0 y e in buried (is_number 2 x t) (omega (arith, v.most)))
    (by_test (is 3 x) (λ t. is 2 x ≡ false → is 1 x ≡ false → (if t then between (pos 0) (pos 5000) y else span_fits y) ≡ true → DynamicRight (up x) (up y))
    (λ t _ _ e. culvert (is_number 3 x t) (between_count 0 5000 y e).most)
    (λ t f g e. let v = between_count 1 2000 y e in span (omega (arith, past_three c g f t, c.most)) v.least v.most)))

-- the header's words are the job's first
head_word : (b : List ℕ) (q : ℕ) → q < words (header_of b) Head → word_at (section_of b Head) q ≡ word_at b q
head_word b q h = let g : 0 + q ≡ q = omega arith in section_word b (header_of b) Head q h ∙ ap (word_at b) g

-- ten of them in every edition
early : (b : List ℕ) {q : ℕ} → q < 10 → q < words (header_of b) Head
early b h = omega (arith, header_long (header_of b))

-- a job without fault 2 has a header within its limits
pub header_fits : (b : List ℕ) → fault2 b ≡ None → HeaderFits b
unfolding fault2
header_fits b e =
    let l = one_of_lem (1 ∷ 2 ∷ 5 ∷ 10 ∷ 25 ∷ 50 ∷ []) (item_from (section_of b Head) 0 0) (word_at b 1) (rw (word 1 (omega arith)) at (field 1 (omega arith))) in
    let n = (and-eq-true_iff (between (pos 1) (pos 1000) (word_at b 2)) (le_z (word_at b 2 *ℤ word_at b 1) (pos 1000))).0 (rw (word 2 (omega arith), word 1 (omega arith)) at (field 2 (omega arith))) in
    let pieces = between_count 1 1000 (word_at b 2) n.0 in
    let kind = count 5 1 (dynamic_kinds (header_of b).edition) (omega arith) (field 5 (omega arith)) in
    let fits : dynamic_fits (word_at b 5) (word_at b 6) ≡ true = rw (word 5 (omega arith), word 6 (omega arith)) at (field 6 (omega arith)) in
    let greatest = dynamic_words (word_at b 5) (word_at b 6) (four kind) fits in
    record {
      length = l.0;
      length_is = l.1;
      pieces = pieces;
      reach = product pieces.is l.1 (le_z_true _ _ n.1);
      spacing = count 3 10 50 (omega arith) (field 3 (omega arith));
      wide = count 4 300 2079 (omega arith) (field 4 (omega arith));
      dynamic = by_question _ greatest (least kind greatest);
      kind4 = λ e. (spans kind e).0;
      effects = counts.0;
      rows = counts.1;
      records = counts.2;
      eleven = λ e. (counts.3 e).0;
      unlisted = λ e. (counts.3 e).1;
      carriageways = sides (header_of b).edition refl;
    }
  where
    word : (q : ℕ) → q < 10 → word_at (section_of b Head) q ≡ word_at b q
    word q h = head_word b q (early b h)

    Admitted : ℕ → Type 0
    Admitted q = get_or (format (header_of b) Head).fields q free (item_from (section_of b Head) 0 0) (word_at (section_of b Head) (0 + q)) ≡ true

    admitted : (q : ℕ) → q < words (header_of b) Head → Admitted q
    admitted q h = rw (mul-zero (length (format (header_of b) Head).fields)) at (fits (format (header_of b) Head) (section_of b Head) (moved_none 0 _ (or_none _ None e).0) 0 q (omega arith) (omega arith))

    field : (q : ℕ) → q < 10 → Admitted q
    field q h = admitted q (early b h)

    count : (q lo hi : ℕ) → q < 10 → between (pos lo) (pos hi) (word_at (section_of b Head) q) ≡ true → Count lo hi (word_at b q)
    count q lo hi h t = between_count lo hi (word_at b q) (rw (word q h) at t)

    KindFits : Edition → Type 0
    KindFits e = Count 1 (dynamic_kinds e) (word_at b 5)

    -- no edition has a kind past 4
    four : KindFits (header_of b).edition → Count 1 4 (word_at b 5)
    four = go (header_of b).edition
      where
        go : (e : Edition) → KindFits e → Count 1 4 (word_at b 5)
        go First c = wider c (omega arith) (omega arith)
        go Second c = c
        go Third c = c
        go Fourth c = wider c (omega arith) (omega arith)

    -- kind 4 is of editions 2 and 3, where word 10 is a span
    spans : KindFits (header_of b).edition → count_at b 5 ≡ 4 → (10 < words (header_of b) Head) × Count 1 2000 (word_at b 10)
    spans c k = go (header_of b).edition refl c
      where
        LeastFits : Edition → Type 0
        LeastFits e = get_or (table_counts e) 3 free (item_from (section_of b Head) 0 0) (word_at (section_of b Head) 10) ≡ true

        span_word : (there : 10 < words (header_of b) Head) → least_span_fits (word_at (section_of b Head) 5) (word_at (section_of b Head) 10) ≡ true → Count 1 2000 (word_at b 10)
        span_word there f =
            let g : least_span_fits (pos 4) (word_at b 10) ≡ true = rw (word 5 (omega arith), head_word b 10 there, c.is, k) at f in
            between_count 1 2000 (word_at b 10) g

        go : (e : Edition) → (header_of b).edition ≡ e → KindFits e → (10 < words (header_of b) Head) × Count 1 2000 (word_at b 10)
        go First s d = absurd (omega (arith, d.most))
        go Second s d = let there : 10 < words (header_of b) Head = rw s (omega arith) in (there, span_word there (subst LeastFits s (admitted 10 there)))
        go Third s d = let there : 10 < words (header_of b) Head = rw s (omega arith) in (there, span_word there (subst LeastFits s (admitted 10 there)))
        go Fourth s d = absurd (omega (arith, d.most))

    -- the second carriageway's width, word 12 of edition 3
    sides : (e : Edition) → (header_of b).edition ≡ e → Carriageways b
    sides First s = one (rw s refl)
    sides Second s = one (rw s refl)
    sides Third s =
        let there : 12 < words (header_of b) Head = rw s (omega arith) in
        let f : between (pos 300) (pos 2079) (word_at (section_of b Head) 12) ≡ true = subst (λ (e : Edition). get_or (table_counts e) 5 free (item_from (section_of b Head) 0 0) (word_at (section_of b Head) 12) ≡ true) s (admitted 12 there) in
        let c = between_count 300 2079 (word_at b 12) (rw (head_word b 12 there) at f) in
        let w : (header_of b).second ≡ count_at b 12 = rw s refl in
        two s (omega (arith, c.least)) (omega (arith, c.most))
    sides Fourth s = one (rw s refl)

    -- the value for least
    least : KindFits (header_of b).edition → DynamicRight (count_at b 5) (count_at b 6) → DynamicRight (count_at b 5) (dynamic_value b (header_of b) Least)
    least c d =
        by_test (eqb (count_at b 5) 4) (λ t. DynamicRight (count_at b 5) (if t then count_at b 10 else count_at b 6))
        (λ t. let k = eqb-true (count_at b 5) 4 t in let l = (spans c k).1 in span k l.least l.most)
        (λ _. d)

    -- words 7, 8 and 9, by edition
    counts : Count 0 16 (word_at b 7) × Count 0 32 (word_at b 8) × Count 0 512 (word_at b 9) × (profile_of (header_of b).edition ≡ rural → (count_at b 7 ≡ 11) × (count_at b 8 ≡ 0))
    counts = go (header_of b).edition (field 7 (omega arith)) (field 8 (omega arith)) (field 9 (omega arith))
      where
        Admits : Edition → ℕ → ℤ → Type 0
        Admits e j x = get_or (table_counts e) j free (item_from (section_of b Head) 0 0) x ≡ true

        listed : between (pos 0) (pos 16) (word_at (section_of b Head) 7) ≡ true → between (pos 1) (pos 32) (word_at (section_of b Head) 8) ≡ true → between (pos 0) (pos 512) (word_at (section_of b Head) 9) ≡ true →
            Count 0 16 (word_at b 7) × Count 0 32 (word_at b 8) × Count 0 512 (word_at b 9) × (highway ≡ rural → (count_at b 7 ≡ 11) × (count_at b 8 ≡ 0))
        listed x y z = (count 7 0 16 (omega arith) x, wider (count 8 1 32 (omega arith) y) (omega arith) (omega arith), count 9 0 512 (omega arith) z, λ n. absurd (not_rural n))

        go : (e : Edition) → Admits e 0 (word_at (section_of b Head) 7) → Admits e 1 (word_at (section_of b Head) 8) → Admits e 2 (word_at (section_of b Head) 9) →
            Count 0 16 (word_at b 7) × Count 0 32 (word_at b 8) × Count 0 512 (word_at b 9) × (profile_of e ≡ rural → (count_at b 7 ≡ 11) × (count_at b 8 ≡ 0))
        go First x y z = listed x y z
        go Second x y z = listed x y z
        go Third x y z = listed x y z
        go Fourth x y z =
            let eleven = count 7 11 11 (omega arith) x in
            let unlisted = count 8 0 0 (omega arith) y in
            (wider eleven (omega arith) (omega arith), wider unlisted (omega arith) (omega arith), wider (count 9 0 0 (omega arith) z) (omega arith) (omega arith), λ _. (omega (arith, eleven.least, eleven.most), omega (arith, unlisted.most)))

    product : {x y : ℤ} {m n : ℕ} → x ≡ pos m → y ≡ pos n → (x *ℤ y) ≤ℤ pos 1000 → m * n ≤ 1000
    product {x} {y} {m} {n} e f h = omega (arith, ≤→ℕ (subst (λ (z : ℤ). (pos m *ℤ z) ≤ℤ pos 1000) f (subst (λ (z : ℤ). (z *ℤ y) ≤ℤ pos 1000) e h)))

-- a rural bridge without fault 11 is at most 430 cm wide
pub rural_width : (b : List ℕ) → fault11 b ≡ None → profile_of (header_of b).edition ≡ rural → count_at b 4 ≤ 430
unfolding fault11
rural_width b e r = rw (head_word b 4 (early b (omega arith))) at (go (profile_of (header_of b).edition) r e)
  where
    s : List ℕ
    s = section_of b Head

    go : (p : Profile) → p ≡ rural → misfit (1 of width_test p) s ≡ None → up (word_at s 4) ≤ 430
    go highway f e = absurd (not_rural f)
    go rural f e =
        by_test (is 3 (word_at s 10)) (λ t. (if t then range 370 430 else range 300 370) (item_from s 0 0) (word_at s 4) ≡ true → up (word_at s 4) ≤ 430)
        (λ _ t. (between_count 370 430 (word_at s 4) t).most)
        (λ _ t. let c = between_count 300 370 (word_at s 4) t in omega (arith, c.most))
        (fits (1 of width_test rural) s e 0 4 (omega arith) (omega arith))

-- and has one carriageway
pub rural_second : (b : List ℕ) → profile_of (header_of b).edition ≡ rural → (decode b).second.width ≡ 0
unfolding decode
rural_second b = go (header_of b).edition
  where
    go : (e : Edition) → profile_of e ≡ rural → second_width e b ≡ 0
    go First r = refl
    go Second r = refl
    go Third r = absurd (not_rural r)
    go Fourth r = refl

-- 50 dm is a whole number of pieces
pub whole_spacing : (h : ℕ) → OneOf (1 ∷ 2 ∷ 5 ∷ 10 ∷ 25 ∷ 50 ∷ []) h → (0 < h) × (50 / h * h ≡ 50)
whole_spacing h (inl e) = rw e (omega arith, refl)
whole_spacing h (inr (inl e)) = rw e (omega arith, refl)
whole_spacing h (inr (inr (inl e))) = rw e (omega arith, refl)
whole_spacing h (inr (inr (inr (inl e)))) = rw e (omega arith, refl)
whole_spacing h (inr (inr (inr (inr (inl e))))) = rw e (omega arith, refl)
whole_spacing h (inr (inr (inr (inr (inr (inl e)))))) = rw e (omega arith, refl)
whole_spacing h (inr (inr (inr (inr (inr (inr x6)))))) = elim x6 [ ]

-- the dynamic factor is from 1000 to 1300 thousandths
pub dynamic_range : (kind value : ℕ) → DynamicRight kind value → (1000 ≤ dynamic_factor kind value) × (dynamic_factor kind value ≤ 1300)
unfolding dynamic_factor
dynamic_range kind value (read e l h) = rw e (l, h)
dynamic_range kind value (buried e f) = rw e (omega arith)
dynamic_range kind value (culvert e h) = rw e (omega arith)
dynamic_range kind value (span e l h) = rw e (span_range value)

-- and its value at most 5000
pub dynamic_most : {kind value : ℕ} → DynamicRight kind value → value ≤ 5000
dynamic_most (read e l h) = omega arith
dynamic_most (buried e f) = omega arith
dynamic_most (culvert e h) = h
dynamic_most (span e l h) = omega arith
