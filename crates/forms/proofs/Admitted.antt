-- The form of an accepted job is accepted, in its edition.
use mathlib.Core.Path.{◌≡◌, refl, sym, ◌∙◌, ap, ap₂, subst}
use mathlib.Core.Bool.{Bool, true, false, not, ◌&&◌, ◌||◌, and-eq-true_iff}
use Rattle.std.specs.Prelude.{Option, None}
use mathlib.Core.List.{List, [], ◌∷◌}
use Prim.Native.Nat.{ℕ, zero, suc, ◌+◌, ◌-◌, ◌*◌, ◌/◌, ◌%◌, ◌≤◌, ◌<◌}
use native.Mathlib.Decide.{dec_le}
use native.Mathlib.Nat.{le_refl}
use native.Mathlib.Omega.{arith}
use lib.Dec.{eqb, leb}
use lib.IntN.{ℤ, pos}
use lib.ListN.{length}
use borrow.Author.Tests.{eq-eqb, le-leb}
use Rattle.exact.specs.Choice.{between, or_else}
use Rattle.exact.specs.Parts.{up}
use Rattle.exact.proofs.Bridge.{by_test}
use Rattle.words.specs.Words.{word_at}
use Rattle.words.specs.Fields.{Item, moved, misfit, ◌of◌}
use Rattle.words.proofs.Fits.{or_none, moved_none}
use Rattle.words.proofs.Items.{AllFit, ItemsFit, items_fit, no_misfit}
use Rattle.model.specs.Chains.{returns, names_twice, walk}
use Rattle.model.specs.Decode.{first_record}
use Rattle.model.specs.Format.{profile_of, edition_number, is, header_of, table_counts, format, words, start, words_due, section, section_of, fault_in}
use Rattle.model.specs.Job.{Profile, highway, rural, Term}
use Rattle.model.specs.Refusals.{unless, signs, row_tests, row_fault, width_test, chain_returns, chain_names_twice, fault1, fault2, fault3, fault4, fault5, fault6, fault7, fault8, fault11, job_tests, job_verdict, highway_verdict}
use Rattle.model.specs.StandardForm.{terms_of, start_at, records_to, record_count, form_part, form}
use Rattle.model.specs.declared.Edition.{Edition}
use Rattle.model.specs.declared.Edition.TheVariants.{First, Second, Third, Fourth}
use Rattle.model.specs.declared.Header.{Header}
use Rattle.model.specs.declared.Part.TheVariants.{Head, Line, Transverse, SecondTransverse, Effects, Rows, Records}
use Rattle.model.proofs.Chains.{Bounded, ended, returns_long, names_exact}
use Rattle.model.proofs.Sections.{section_word}
use Rattle.model.proofs.Verdict.{Clear, clear, unless_none, header_long, highway_verdict_lem, highway_accepted}
use Rattle.forms.proofs.Rising.{Each, TermFits, rising_distinct, records_mono}
use Rattle.forms.proofs.Written.{Written, chain_over, no_repeat}
use Rattle.forms.proofs.Listed.{Listed}
use Rattle.forms.proofs.Agreeing.{row_word}
use Rattle.forms.proofs.Parts.{form_head, fitting, few_512, kept_word, count_word, form_header, form_part_lem, form_length, form_listed, row_head_lem, chain_written, first_of, first_small, first_word}
use Rattle.forms.proofs.Standard.{listed}

from_to : (lo hi n : ℕ) → lo ≤ n → n ≤ hi → between (pos lo) (pos hi) (pos n) ≡ true
from_to lo hi n l h = ap₂ ◌&&◌ (le-leb lo n l) (le-leb n hi h)

not_rural : rural ≡ highway → ⊥
not_rural e = subst (λ (p : Profile). elim p as (λ _. Type 0) [ highway ↦ ⊥ | rural ↦ Unit {0} ]) e tt

abbrev item_of : (ℕ → ℤ) → Item
item_of w = record { number = 0; word = w }

-- a header's words from word 7 on, but C, may change places with equal ones
counts_cong : (e : Edition) → profile_of e ≡ highway → (w v : ℕ → ℤ) → ((q : ℕ) → q < 7 + length (table_counts e) → ¬ (q ≡ 9) → v q ≡ w q) → between (pos 0) (pos 512) (v 9) ≡ true →
    AllFit 7 (table_counts e) (item_of w) → AllFit 7 (table_counts e) (item_of v)
counts_cong First h w v same c a = let at : (q : ℕ) → q < 10 → ¬ (q ≡ 9) → v q ≡ w q = same in
    rw (at 7 (omega arith) (λ z. omega arith), at 8 (omega arith) (λ z. omega arith)) (a.0, (a.1.0, (c, tt)))
counts_cong Second h w v same c a = let at : (q : ℕ) → q < 12 → ¬ (q ≡ 9) → v q ≡ w q = same in
    rw (at 5 (omega arith) (λ z. omega arith), at 7 (omega arith) (λ z. omega arith), at 8 (omega arith) (λ z. omega arith), at 10 (omega arith) (λ z. omega arith), at 11 (omega arith) (λ z. omega arith))
    (a.0, (a.1.0, (c, (a.1.1.1.0, (a.1.1.1.1.0, tt)))))
counts_cong Third h w v same c a = let at : (q : ℕ) → q < 13 → ¬ (q ≡ 9) → v q ≡ w q = same in
    rw (at 5 (omega arith) (λ z. omega arith), at 7 (omega arith) (λ z. omega arith), at 8 (omega arith) (λ z. omega arith), at 10 (omega arith) (λ z. omega arith), at 11 (omega arith) (λ z. omega arith), at 12 (omega arith) (λ z. omega arith))
    (a.0, (a.1.0, (c, (a.1.1.1.0, (a.1.1.1.1.0, (a.1.1.1.1.1.0, tt))))))
counts_cong Fourth h w v same c a = absurd (not_rural h)

-- so may a whole header's
header_cong : (head : Header) → profile_of head.edition ≡ highway → (w v : ℕ → ℤ) → ((q : ℕ) → q < 7 + length (table_counts head.edition) → ¬ (q ≡ 9) → v q ≡ w q) → between (pos 0) (pos 512) (v 9) ≡ true →
    AllFit 0 (format head Head).fields (item_of w) → AllFit 0 (format head Head).fields (item_of v)
header_cong head h w v same c a =
    let tail : AllFit 7 (table_counts head.edition) (item_of v) = counts_cong head.edition h w v same c a.1.1.1.1.1.1.1 in
    let at : (q : ℕ) → q < 7 → v q ≡ w q = λ q l. same q (omega arith) (λ z. omega arith) in
    rw (at 1 (omega arith), at 2 (omega arith), at 3 (omega arith), at 4 (omega arith), at 5 (omega arith), at 6 (omega arith))
    (refl, (a.1.0, (a.1.1.0, (a.1.1.1.0, (a.1.1.1.1.0, (a.1.1.1.1.1.0, (a.1.1.1.1.1.1.0, tail)))))))

-- record k + 1's words, within their limits
record RecordWords (s : List ℕ) (n most k : ℕ) : Type 0 where
  term : Term
  next : ℕ
  fits : TermFits n term
  near : next ≤ most
  effect_is : word_at s (3 * k) ≡ pos term.effect
  factor_is : word_at s (3 * k + 1) ≡ pos term.factor
  next_is : word_at s (3 * k + 2) ≡ pos next

words_of : (s : List ℕ) (n most k : ℕ) (ts : List Term) → Written s k ts → Each (TermFits n) ts → k + length ts ≤ most → (j : ℕ) → k ≤ j → j < k + length ts → RecordWords s n most j
words_of s n most k [] w f h j l m = absurd (omega arith)
words_of s n most k (t ∷ rest) w f h j l m = elim (dec_le j k) [
  | yes z ↦
      let e : j ≡ k = omega arith in
      rw e (record { term = t; next = start_at (suc (suc k)) rest; fits = f.0; near = first rest h; effect_is = w.0; factor_is = w.1; next_is = w.2 })
  | no z ↦ words_of s n most (suc k) rest w.3 f.1 (omega arith) j (omega arith) (omega arith)
]
  where
    first : (rest : List Term) → k + length (t ∷ rest) ≤ most → start_at (suc (suc k)) rest ≤ most
    first [] h = omega arith
    first (u ∷ rest) h = omega arith

module _ (b : List ℕ) (ok : Listed b) (c : Clear b) where
  abbrev head : Header
  head = header_of b

  abbrev head' : Header
  head' = form_head b ok

  abbrev f : List ℕ
  f = form b

  abbrev records : List ℕ
  records = form_part b Records

  by_head : (P : Header → Type 0) → P head' → P (header_of f)
  by_head P = subst P (sym (form_header b ok))

  -- ---- 1, 2, 11 and 3
  named : is (edition_number head.edition) (word_at b 0) ≡ true
  unfolding fault1
  named = ((and-eq-true_iff (leb (4 * words head Head) (length b) && eqb (length b % 4) 0) (is (edition_number head.edition) (word_at b 0))).0 (unless_none _ 0 c.c1)).1

  form1 : fault1 f ≡ None
  unfolding fault1
  form1 =
      let l = form_length b ok in
      by_head (λ x. unless (leb (4 * words x Head) (length f) && eqb (length f % 4) 0 && is (edition_number x.edition) (word_at f 0)) 0 ≡ None)
      (ap (λ (t : Bool). unless t 0)
      (ap₂ ◌&&◌ (ap₂ ◌&&◌ (le-leb (4 * words head' Head) (length f) (omega arith)) (eq-eqb (length f % 4) 0 (omega arith))) (ap (is (edition_number head.edition)) (kept_word b ok 0 (omega (arith, header_long head)) (λ e. omega arith)) ∙ named)))

  header_clear : misfit (format head Head) (section_of b Head) ≡ None
  unfolding fault2
  header_clear = moved_none _ _ (or_none _ _ c.c2).0

  form2 : fault2 f ≡ None
  unfolding fault2
  form2 = by_head (λ x. fault_in f x (Head ∷ []) ≡ None) (ap (λ (o : Option ℕ). or_else (moved 0 o) None) (no_misfit (format head' Head) (section f head' Head) item))
    where
      now : (q : ℕ) → q < words head Head → word_at (section f head' Head) (0 + q) ≡ word_at f q
      now q h = let z : 0 + q ≡ q = omega arith in ap (word_at (section f head' Head)) z ∙ section_word f head' Head q h ∙ ap (word_at f) z

      was : (q : ℕ) → q < words head Head → word_at (section_of b Head) (0 + q) ≡ word_at b q
      was q h = let z : 0 + q ≡ q = omega arith in ap (word_at (section_of b Head)) z ∙ section_word b head Head q h ∙ ap (word_at b) z

      item : ItemsFit (format head' Head) (section f head' Head)
      item i h =
          let e : i ≡ 0 = omega arith in
          let n : length (format head Head).fields * 0 ≡ 0 = omega arith in
          let all = items_fit (format head Head) (section_of b Head) header_clear 0 (omega arith) in
          rw (e, n)
          (header_cong head' ok.listed (λ q. word_at (section_of b Head) (0 + q)) (λ q. word_at (section f head' Head) (0 + q))
          (λ q l other. now q (omega arith) ∙ kept_word b ok q (omega arith) other ∙ sym (was q (omega arith)))
          (ap (between (pos 0) (pos 512)) (now 9 (omega (arith, header_long head)) ∙ count_word b ok) ∙ from_to 0 512 (record_count b) (omega arith) (few_512 b ok))
          (rw n at all))

  form11 : fault11 f ≡ None
  unfolding fault11 misfit
  form11 = ap (λ (p : Profile). misfit (1 of width_test p) (section_of f Head)) (form_listed b ok)

  form3 : fault3 f ≡ None
  unfolding fault3
  form3 = by_head (λ x. unless (eqb (length f / 4) (words_due x)) (words_due x) ≡ None) (ap (λ (t : Bool). unless t (words_due head')) (eq-eqb (length f / 4) (words_due head') (let l = form_length b ok in omega arith)))

  -- ---- 4 and 5
  form4 : fault4 f ≡ None
  unfolding fault4 form_part
  form4 = by_head (λ x. fault_in f x (Line ∷ Transverse ∷ SecondTransverse ∷ []) ≡ None) (rw (form_part_lem b ok Line, form_part_lem b ok Transverse, form_part_lem b ok SecondTransverse) c.c4)

  form5 : fault5 f ≡ None
  unfolding fault5 form_part
  form5 = by_head (λ x. moved (start x Line) (misfit (signs x.pieces) (section f x Line)) ≡ None) (rw (form_part_lem b ok Line) c.c5)

  -- ---- 6
  table : (misfit (format head Effects) (section_of b Effects) ≡ None) × (misfit (format head Rows) (section_of b Rows) ≡ None)
  unfolding fault6
  table = let r = or_none _ _ c.c6 in (moved_none _ _ r.0, moved_none _ _ (or_none _ _ r.1).0)

  -- a row's words but the first record are the job's
  kept_row : (i j : ℕ) → i < head.rows → j < 3 → word_at (form_part b Rows) (4 * i + j) ≡ word_at (section_of b Rows) (4 * i + j)
  kept_row i j h l = sym (row_word (form_part b Rows) i j l) ∙ ap (λ (s : List ℕ). word_at s j) (row_head_lem b ok i h) ∙ row_word (section_of b Rows) i j l

  rows_fit : ItemsFit (format head' Rows) (form_part b Rows)
  rows_fit i h =
      let a = items_fit (format head Rows) (section_of b Rows) table.1 i h in
      rw (kept_row i 0 h (omega arith), kept_row i 1 h (omega arith), kept_row i 2 h (omega arith), first_word b ok i h)
      (a.0, (a.1.0, (a.1.1.0, (from_to 0 (record_count b) (first_of b ok i) (omega arith) (first_small b ok i h), tt))))

  words_to : (m : ℕ) → m ≤ head.rows → (k : ℕ) → k < records_to m (terms_of b) → RecordWords records head.effects (record_count b) k
  words_to zero l k h = absurd (omega arith)
  words_to (suc m) l k h = elim (dec_le (records_to m (terms_of b)) k) [
    | yes z ↦ words_of records head.effects (record_count b) (records_to m (terms_of b)) (terms_of b (suc m)) (chain_written b ok m l) (fitting b ok m l) (records_mono (terms_of b) m head.rows l) k z h
    | no z ↦ words_to m (omega arith) k (omega arith)
  ]

  record_words : (k : ℕ) → k < record_count b → RecordWords records head.effects (record_count b) k
  record_words k h = words_to head.rows (le_refl head.rows) k h

  records_fit : ItemsFit (format head' Records) records
  records_fit k h =
      let r = record_words k h in
      let z : 3 * k + 0 ≡ 3 * k = omega arith in
      rw (z, r.effect_is, r.factor_is, r.next_is) (
        from_to 1 head.effects r.term.effect r.fits.least r.fits.most,
        (from_to 0 3000 r.term.factor (omega arith) r.fits.factor, (from_to 0 (record_count b) r.next (omega arith) r.near, tt)),
      )

  effects_fit : misfit (format head' Effects) (form_part b Effects) ≡ None
  unfolding form_part
  effects_fit = table.0

  form6 : fault6 f ≡ None
  unfolding fault6
  form6 =
      by_head (λ x. fault_in f x (Effects ∷ Rows ∷ Records ∷ []) ≡ None)
      (rw (form_part_lem b ok Effects, form_part_lem b ok Rows, form_part_lem b ok Records, effects_fit, no_misfit (format head' Rows) (form_part b Rows) rows_fit, no_misfit (format head' Records) records records_fit)
      refl)

  -- ---- 7 and 8
  module _ (i : ℕ) (h : i < head.rows) where
    bounded : Bounded records (record_count b) (first_of b ok i)
    bounded = record { first = first_small b ok i h; next = λ k l m. let r = record_words (k - 1) (omega arith) in rw r.next_is r.near }

    over : walk records (first_of b ok i) (record_count b) ≡ 0
    over =
        ended records (first_of b ok i) (length (terms_of b (suc i))) (record_count b)
        (chain_over records (records_to i (terms_of b)) (terms_of b (suc i)) (chain_written b ok i h))
        (omega (arith, records_mono (terms_of b) i head.rows h))

    no_return : returns records (record_count b) (first_of b ok i) ≡ false
    no_return = by_test (returns records (record_count b) (first_of b ok i)) (λ t. t ≡ false) (λ t. absurd ((returns_long _ _ _ bounded).0 t over)) (λ _. refl)

    named_once : names_twice records (record_count b) (first_of b ok i) ≡ false
    unfolding terms_of
    named_once =
        by_test (names_twice records (record_count b) (first_of b ok i)) (λ t. t ≡ false)
        (λ t.
        let v = (names_exact _ _ _ bounded no_return).0 t in
        absurd (no_repeat records (records_to i (terms_of b)) (terms_of b (suc i)) (chain_written b ok i h) (rising_distinct _ 1 head.effects) v.earlier v.later v.in_order v.on_chain v.same))
        (λ _. refl)

    first_is : first_record (form_part b Rows) (i + 1) ≡ first_of b ok i
    first_is = let z : i + 1 - 1 ≡ i = omega arith in rw z (ap up (first_word b ok i h))

    -- the row's chain as the form's own header reads it
    chain_is : (key : List ℕ → ℕ → ℕ → Bool) → key (section_of f Records) (header_of f).records (first_record (section_of f Rows) (i + 1)) ≡ key records (record_count b) (first_of b ok i)
    chain_is key =
        by_head (λ x. key (section f x Records) x.records (first_record (section f x Rows) (i + 1)) ≡ key records (record_count b) (first_of b ok i))
        (rw (form_part_lem b ok Records, form_part_lem b ok Rows, first_is) refl)

    passes7 : not (chain_returns f (i + 1)) ≡ true
    passes7 = ap not (chain_is returns ∙ no_return)

    passes8 : (chain_returns f (i + 1) || not (chain_names_twice f (i + 1))) ≡ true
    passes8 = ap₂ (λ (r t : Bool). r || not t) (chain_is returns ∙ no_return) (chain_is names_twice ∙ named_once)

  -- rows that all pass a test
  all_pass : (passes : ℕ → Bool) → ((i : ℕ) → i < head.rows → passes i ≡ true) → row_fault f passes ≡ None
  all_pass passes h =
      let n : (header_of f).rows ≡ head.rows = ap (λ (x : Header). x.rows) (form_header b ok) in
      ap (moved (start (header_of f) Rows)) (no_misfit (row_tests (header_of f).rows passes) (section_of f Rows) (λ i l. (h i (omega arith), (refl, (refl, (refl, tt))))))

  form7 : fault7 f ≡ None
  unfolding fault7
  form7 = all_pass (λ i. not (chain_returns f (i + 1))) passes7

  form8 : fault8 f ≡ None
  unfolding fault8
  form8 = all_pass (λ i. chain_returns f (i + 1) || not (chain_names_twice f (i + 1))) passes8

  form_clear : job_verdict f ≡ None
  unfolding job_verdict job_tests
  form_clear = rw (form1, form2, form11, form3, form4, form5, form6, form7, form8) refl

-- the form is accepted, in the job's edition
pub form_accepted : (b : List ℕ) → highway_verdict b ≡ None → highway_verdict (form b) ≡ None
form_accepted b accepted =
    let ok = listed b accepted in
    highway_verdict_lem (form b) (form_listed b ok) ∙ form_clear b ok (clear b (highway_accepted b accepted).1)

pub form_edition : (b : List ℕ) → highway_verdict b ≡ None → (header_of (form b)).edition ≡ (header_of b).edition
form_edition b accepted = ap (λ (x : Header). x.edition) (form_header b (listed b accepted))
