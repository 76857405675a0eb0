-- The form of an accepted job, part by part, as its own header reads it.
use mathlib.Core.Path.{◌≡◌, sym, ◌∙◌, ap, subst}
use mathlib.Core.List.{List, [], ◌∷◌, ◌++◌, append_assoc, append-nil}
use Prim.Native.Nat.{ℕ, suc, ◌+◌, ◌-◌, ◌*◌, ◌≤◌, ◌<◌}
use native.Mathlib.Decide.{dec_le}
use native.Mathlib.Nat.{le_refl, mul-le-mul}
use native.Mathlib.Omega.{arith}
use lib.IntN.{ℤ, pos}
use lib.ListN.{length, take, drop, length-append, length-take, length-drop}
use lib.Seq.{take_at, drop_at}
use Rattle.exact.specs.Parts.{up}
use Rattle.words.specs.Words.{word_at}
use Rattle.model.specs.Decode.{first_record, decode}
use Rattle.model.specs.Format.{profile_of, header_of, before, words, total, start, words_due, section, section_of}
use Rattle.model.specs.Job.{Term, highway}
use Rattle.model.specs.StandardForm.{factor_of, row_factor, terms_of, records_to, record_count, word_bytes, start_at, row_head, row_bytes, record_bytes, joined, form_part, form}
use Rattle.model.specs.declared.Header.{Header}
use Rattle.model.specs.declared.Part.{Part}
use Rattle.model.specs.declared.Part.TheVariants.{Head, Line, Transverse, SecondTransverse, Effects, Rows, Records}
use Rattle.model.proofs.Sections.{section_length, section_word}
use Rattle.model.proofs.Verdict.{header_long, part_inside}
use Rattle.forms.proofs.Rising.{Each, TermFits, factor_small, rising_each, rising_nonzero, rising_length, rising_factor, records_mono, records_most}
use Rattle.forms.proofs.Reading.{word_past, word_front, word_take, word_drop, word_read, bytes_four, Standing, joined_at, rows_length, records_length}
use Rattle.forms.proofs.Written.{Written, written, chain_read}
use Rattle.forms.proofs.Listed.{chain_of, Listed, row_chain, row_terms}
use Rattle.forms.proofs.Agreeing.{Same, with_records, same_header}

-- a part between a front and the rest
part_of : (s p x q : List ℕ) (m n : ℕ) → s ≡ p ++ (x ++ q) → length p ≡ 4 * m → length x ≡ 4 * n → take (4 * n) (drop (4 * m) s) ≡ x
part_of s p x q m n e l k = ap (λ (t : List ℕ). take (4 * n) (drop (4 * m) t)) e ∙ ap (take (4 * n)) (drop_at p (x ++ q) (4 * m) l) ∙ take_at x q (4 * n) k

-- the parts after a part
abbrev after : Part → List Part
after Head = Line ∷ Transverse ∷ SecondTransverse ∷ Effects ∷ Rows ∷ Records ∷ []
after Line = Transverse ∷ SecondTransverse ∷ Effects ∷ Rows ∷ Records ∷ []
after Transverse = SecondTransverse ∷ Effects ∷ Rows ∷ Records ∷ []
after SecondTransverse = Effects ∷ Rows ∷ Records ∷ []
after Effects = Rows ∷ Records ∷ []
after Rows = Records ∷ []
after Records = []

module _ (b : List ℕ) (ok : Listed b) where
  abbrev head : Header
  head = header_of b

  abbrev terms : ℕ → List Term
  terms = terms_of b

  -- its header
  abbrev pub form_head : Header
  form_head = with_records head (record_count b)

  -- ---- its terms
  pub fitting : (i : ℕ) → i < head.rows → Each (TermFits head.effects) (terms (suc i))
  fitting i h =
      subst (Each (TermFits head.effects)) (sym (row_terms b ok.listed i))
      (rising_each (TermFits head.effects) _ 1 head.effects (λ d l m. record { least = l; most = omega arith; factor = factor_small head.effects (chain_of b i) (ok.terms i h) d }))

  pub short : (i : ℕ) → length (terms (suc i)) ≤ head.effects
  unfolding terms_of
  short i = rising_length (row_factor (decode b) (suc i)) 1 head.effects

  most : record_count b ≤ head.rows * head.effects
  most = records_most terms head.effects head.rows (λ i h. short i)

  -- C is at most R times E
  pub few_records : record_count b ≤ head.rows * head.effects
  few_records = most

  pub few_512 : record_count b ≤ 512
  few_512 = let m : head.rows * head.effects ≤ 32 * 16 = mul-le-mul ok.rows ok.effects in omega (arith, most)

  -- ---- lengths
  own : (part : Part) → length (section_of b part) ≡ 4 * words head part
  own part = section_length b head part (part_inside b ok.size part)

  head_length : (i : ℕ) → i < head.rows → length (row_head (section_of b Rows) i) ≡ 12
  head_length i h = let s = own Rows in simp (length-take, length-drop) (omega arith)

  all_rows : (n : ℕ) → n ≤ head.rows → length (joined n (row_bytes (section_of b Rows) terms)) ≡ 16 * n
  all_rows n m = rows_length (section_of b Rows) terms n (omega (arith, own Rows))

  front : length (take 36 (section_of b Head)) ≡ 36
  front = let s = own Head in let l = header_long head in simp length-take (omega arith)

  pub part_length : (part : Part) → length (form_part b part) ≡ 4 * words form_head part
  unfolding form_part
  part_length Head = let s = own Head in let l = header_long head in let f = front in simp (length-append, bytes_four, length-drop) (omega arith)
  part_length Line = own Line
  part_length Transverse = own Transverse
  part_length SecondTransverse = own SecondTransverse
  part_length Effects = own Effects
  part_length Rows = omega (arith, all_rows head.rows (le_refl head.rows))
  part_length Records = omega (arith, records_length terms head.rows)

  -- ---- where each part stands
  abbrev parts : List Part → List ℕ
  parts [] = []
  parts (part ∷ rest) = form_part b part ++ parts rest

  parts_length : (ps : List Part) → length (parts ps) ≡ 4 * total form_head ps
  parts_length [] = omega arith
  parts_length (part ∷ rest) = let l = part_length part in let m = parts_length rest in simp length-append (omega arith)

  stands : (part : Part) → form b ≡ parts (before part) ++ (form_part b part ++ parts (after part))
  unfolding form
  stands Head = simp (append_assoc, append-nil)
  stands Line = simp (append_assoc, append-nil)
  stands Transverse = simp (append_assoc, append-nil)
  stands SecondTransverse = simp (append_assoc, append-nil)
  stands Effects = simp (append_assoc, append-nil)
  stands Rows = simp (append_assoc, append-nil)
  stands Records = simp (append_assoc, append-nil)

  -- each part of the form, by its own header
  pub form_part_lem : (part : Part) → section (form b) form_head part ≡ form_part b part
  unfolding section
  form_part_lem part = part_of (form b) (parts (before part)) (form_part b part) (parts (after part)) (start form_head part) (words form_head part) (stands part) (parts_length (before part)) (part_length part)

  -- the form's length, the place of 12
  pub form_length : length (form b) ≡ 4 * words_due form_head
  form_length =
      let e = ap length (stands Records) in
      let l = length-append (parts (before Records)) (form_part b Records ++ []) in
      let m = length-append (form_part b Records) [] in
      omega (arith, e, l, m, part_length Records, parts_length (before Records))

  -- ---- its header
  -- the words of the job's header but C
  head_word : (q : ℕ) → q < words head Head → ¬ (q ≡ 9) → word_at (form_part b Head) q ≡ word_at (section_of b Head) q
  unfolding form_part
  head_word q h other = elim (dec_le 9 q) [
    | yes l ↦
        let n : q ≡ 9 + (1 + (q - 10)) = omega arith in
        let m : 10 + (q - 10) ≡ q = omega arith in
        ap (word_at _) n
        ∙ word_past (take 36 (section_of b Head)) _ 9 (1 + (q - 10)) front
        ∙ word_past (word_bytes (record_count b)) (drop 40 (section_of b Head)) 1 (q - 10) (bytes_four (record_count b))
        ∙ word_drop 10 (q - 10) (section_of b Head)
        ∙ ap (word_at (section_of b Head)) m
    | no l ↦ let f = front in word_front (take 36 (section_of b Head)) _ q (omega arith) ∙ word_take 36 q (section_of b Head) (omega arith)
  ]

  -- a word of the form's header is its first part's
  first_part : (q : ℕ) → q < words head Head → word_at (form b) q ≡ word_at (form_part b Head) q
  first_part q h = let l = part_length Head in ap (λ (s : List ℕ). word_at s q) (stands Head) ∙ word_front (form_part b Head) (parts (after Head)) q (omega arith)

  pub kept_word : (q : ℕ) → q < words head Head → ¬ (q ≡ 9) → word_at (form b) q ≡ word_at b q
  kept_word q h other = let z : 0 + q ≡ q = omega arith in first_part q h ∙ head_word q h other ∙ section_word b head Head q h ∙ ap (word_at b) z

  pub count_word : word_at (form b) 9 ≡ pos (record_count b)
  unfolding form_part
  count_word = first_part 9 (omega (arith, header_long head)) ∙ word_past (take 36 (section_of b Head)) _ 9 0 front ∙ word_read (record_count b) (drop 40 (section_of b Head)) (omega (arith, few_512))

  pub form_header : header_of (form b) ≡ form_head
  form_header = sym (same_header b (form b) (λ q h other. sym (kept_word q h other))) ∙ ap (λ (x : ℤ). with_records head (up x)) count_word

  form_section : (part : Part) → section_of (form b) part ≡ form_part b part
  form_section part = ap (λ (x : Header). section (form b) x part) form_header ∙ form_part_lem part

  -- ---- row i + 1
  row_stands : (i : ℕ) → i < head.rows → Standing (form_part b Rows) (joined i (row_bytes (section_of b Rows) terms)) (row_bytes (section_of b Rows) terms i)
  unfolding form_part
  row_stands i h = joined_at head.rows (row_bytes (section_of b Rows) terms) i h

  pub chain_written : (i : ℕ) → i < head.rows → Written (form_part b Records) (records_to i terms) (terms (suc i))
  unfolding form_part
  chain_written i h =
      let st = joined_at head.rows (record_bytes terms) i h in
      let m = records_mono terms i head.rows h in
      written head.effects ok.effects (form_part b Records) (joined i (record_bytes terms)) st.rest (records_to i terms) (terms (suc i)) st.is (records_length terms i) (omega (arith, few_512)) (fitting i h)

  pub row_head_lem : (i : ℕ) → i < head.rows → row_head (form_part b Rows) i ≡ row_head (section_of b Rows) i
  row_head_lem i h =
      let st = row_stands i h in
      ap (λ (x : List ℕ). take 12 (drop (16 * i) x)) st.is
      ∙ ap (take 12) (drop_at (joined i (row_bytes (section_of b Rows) terms)) (row_bytes (section_of b Rows) terms i ++ st.rest) (16 * i) (all_rows i (omega arith)))
      ∙ ap (take 12) (append_assoc (row_head (section_of b Rows) i) _ st.rest)
      ∙ take_at (row_head (section_of b Rows) i) _ 12 (head_length i h)

  abbrev pub first_of : ℕ → ℕ
  first_of i = start_at (suc (records_to i terms)) (terms (suc i))

  pub first_small : (i : ℕ) → i < head.rows → first_of i ≤ record_count b
  first_small i h = go (terms (suc i)) (records_mono terms i head.rows h)
    where
      go : (ts : List Term) → records_to i terms + length ts ≤ record_count b → start_at (suc (records_to i terms)) ts ≤ record_count b
      go [] l = omega arith
      go (t ∷ rest) l = omega arith

  pub first_word : (i : ℕ) → i < head.rows → word_at (form_part b Rows) (4 * i + 3) ≡ pos (first_of i)
  first_word i h =
      let st = row_stands i h in
      ap (λ (x : List ℕ). word_at x (4 * i + 3)) st.is
      ∙ word_past (joined i (row_bytes (section_of b Rows) terms)) (row_bytes (section_of b Rows) terms i ++ st.rest) (4 * i) 3 (omega (arith, all_rows i (omega arith)))
      ∙ ap (λ (x : List ℕ). word_at x 3) (append_assoc (row_head (section_of b Rows) i) (word_bytes (first_of i)) st.rest)
      ∙ word_past (row_head (section_of b Rows) i) (word_bytes (first_of i) ++ st.rest) 3 0 (head_length i h)
      ∙ word_read (first_of i) st.rest (omega (arith, few_512, first_small i h))

  -- its chain is its terms
  pub form_chain : (i : ℕ) → i < head.rows → chain_of (form b) i ≡ terms (suc i)
  form_chain i h =
      let k : suc i - 1 ≡ i = omega arith in
      let first : first_record (form_part b Rows) (suc i) ≡ first_of i = rw k (ap up (first_word i h)) in
      rw (form_section Records, form_section Rows, count_word, first)
      (chain_read (form_part b Records) (records_to i terms) (record_count b) (terms (suc i)) (chain_written i h) (omega (arith, records_mono terms i head.rows h)))

  pub form_listed : profile_of (header_of (form b)).edition ≡ highway
  form_listed = ap (λ (x : Header). profile_of x.edition) form_header ∙ ok.listed

  -- no factor of 0
  pub form_nonzero : (i : ℕ) → i < head.rows → Each (λ t. ¬ (t.factor ≡ 0)) (chain_of (form b) i)
  unfolding terms_of
  form_nonzero i h = subst (Each (λ t. ¬ (t.factor ≡ 0))) (sym (form_chain i h)) (rising_nonzero (row_factor (decode b) (suc i)) 1 head.effects)

  form_factor : (i e : ℕ) → i < head.rows → 1 ≤ e → e ≤ head.effects → row_factor (decode (form b)) (suc i) e ≡ row_factor (decode b) (suc i) e
  unfolding terms_of
  form_factor i e h l m =
      ap (λ (ts : List Term). factor_of ts e) (row_chain (form b) form_listed i ∙ form_chain i h)
      ∙ rising_factor (row_factor (decode b) (suc i)) 1 head.effects e l (omega arith)

  -- ---- what it says
  form_front_lem : take 36 (form_part b Head) ≡ take 36 (section_of b Head)
  unfolding form_part
  form_front_lem = take_at (take 36 (section_of b Head)) _ 36 front

  form_rest : drop 40 (form_part b Head) ≡ drop 40 (section_of b Head)
  unfolding form_part
  form_rest =
      let f = front in
      ap (drop 40) (sym (append_assoc (take 36 (section_of b Head)) (word_bytes (record_count b)) (drop 40 (section_of b Head))))
      ∙ drop_at (take 36 (section_of b Head) ++ word_bytes (record_count b)) (drop 40 (section_of b Head)) 40 (length-append (take 36 (section_of b Head)) (word_bytes (record_count b)) ∙ omega (arith, bytes_four (record_count b)))

  -- the form says what the job says
  pub form_same : Same b (form b)
  unfolding form_part
  form_same =
      record {
        front = sym (ap (take 36) (form_section Head) ∙ form_front_lem);
        rest = sym (ap (drop 40) (form_section Head) ∙ form_rest);
        line = sym (form_section Line);
        transverse = sym (form_section Transverse);
        second = sym (form_section SecondTransverse);
        effects = sym (form_section Effects);
        row = λ i h. sym (ap (λ (s : List ℕ). row_head s i) (form_section Rows) ∙ row_head_lem i h);
        factor = λ i e h l m. sym (form_factor i e h l m);
      }
