-- Jobs that agree: by their words, and by their bytes.
use mathlib.Core.Path.{◌≡◌, refl, sym, ◌∙◌, ap, subst}
use mathlib.Core.List.{List}
use Prim.Native.Nat.{ℕ, suc, ◌+◌, ◌-◌, ◌*◌, ◌≤◌, ◌<◌}
use native.Mathlib.Decide.{dec_le}
use native.Mathlib.Omega.{arith}
use lib.IntN.{ℤ}
use lib.ListN.{length, take, drop, length-take, length-drop, get_or-eq_default}
use lib.Seq.{get_or-take, get_or-drop}
use Rattle.exact.specs.Parts.{up}
use Rattle.words.specs.Words.{word_at, count_at}
use Rattle.model.specs.Decode.{decode}
use Rattle.model.specs.Format.{edition_of, second_width, header_of, words, start, section, section_of}
use Rattle.model.specs.StandardForm.{row_factor, row_head, AreBytes, SameWords, Agree}
use Rattle.model.specs.declared.Edition.{Edition}
use Rattle.model.specs.declared.Edition.TheVariants.{First, Second, Third, Fourth}
use Rattle.model.specs.declared.Header.{Header}
use Rattle.model.specs.declared.Part.{Part}
use Rattle.model.specs.declared.Part.TheVariants.{Head, Line, Transverse, SecondTransverse, Effects, Rows}
use Rattle.model.proofs.Sections.{section_length, section_word}
use Rattle.model.proofs.Verdict.{header_long, part_inside}
use Rattle.forms.proofs.Reading.{word_take, word_drop}
use Rattle.forms.proofs.EqualWords.{same_words}
use Rattle.forms.proofs.Listed.{Listed}

-- the same bytes but for C, first records and records, and the same factors
pub record Same (b c : List ℕ) : Type 0 where
  pub front : take 36 (section_of b Head) ≡ take 36 (section_of c Head)
  pub rest : drop 40 (section_of b Head) ≡ drop 40 (section_of c Head)
  pub line : section_of b Line ≡ section_of c Line
  pub transverse : section_of b Transverse ≡ section_of c Transverse
  pub second : section_of b SecondTransverse ≡ section_of c SecondTransverse
  pub effects : section_of b Effects ≡ section_of c Effects
  pub row : (i : ℕ) → i < (header_of b).rows → row_head (section_of b Rows) i ≡ row_head (section_of c Rows) i
  pub factor : (i e : ℕ) → i < (header_of b).rows → 1 ≤ e → e ≤ (header_of b).effects → row_factor (decode b) (suc i) e ≡ row_factor (decode c) (suc i) e

-- a header's words are the job's
own_word : (b : List ℕ) (q : ℕ) → q < words (header_of b) Head → word_at (section_of b Head) q ≡ word_at b q
own_word b q h = let z : 0 + q ≡ q = omega arith in section_word b (header_of b) Head q h ∙ ap (word_at b) z

ten : (b : List ℕ) {q : ℕ} → q < 10 → q < words (header_of b) Head
ten b h = omega (arith, header_long (header_of b))

-- ---- headers
-- with other records
abbrev pub with_records : Header → ℕ → Header
with_records head n = record {
  edition = head.edition;
  h = head.h;
  pieces = head.pieces;
  spacing = head.spacing;
  width = head.width;
  kind = head.kind;
  value = head.value;
  effects = head.effects;
  rows = head.rows;
  records = n;
  second = head.second;
}

-- headers whose words are the same but C
module _ (b c : List ℕ) (same : (q : ℕ) → q < words (header_of b) Head → ¬ (q ≡ 9) → word_at b q ≡ word_at c q) where
  early : (q : ℕ) → q < 9 → word_at b q ≡ word_at c q
  early q h = same q (ten b (omega arith)) (λ e. omega arith)

  second_same : (e : Edition) → (header_of b).edition ≡ e → second_width e b ≡ second_width e c
  second_same First s = refl
  second_same Second s = refl
  second_same Third s = ap up (same 12 (rw s (omega arith)) (λ e. omega arith))
  second_same Fourth s = refl

  pub same_header : with_records (header_of b) (header_of c).records ≡ header_of c
  same_header = λ i. record {
    edition = edition_of (early 0 (omega arith) i);
    h = up (early 1 (omega arith) i);
    pieces = up (early 2 (omega arith) i);
    spacing = up (early 3 (omega arith) i);
    width = up (early 4 (omega arith) i);
    kind = up (early 5 (omega arith) i);
    value = up (early 6 (omega arith) i);
    effects = up (early 7 (omega arith) i);
    rows = up (early 8 (omega arith) i);
    records = (header_of c).records;
    second = second_is i;
  }
    where
      second_is : (header_of b).second ≡ (header_of c).second
      second_is = second_same (header_of b).edition refl ∙ ap (λ (x : ℤ). second_width (edition_of x) c) (early 0 (omega arith))

-- ---- by bytes, so by words
module _ (b c : List ℕ) (s : Same b c) where
  front_word : (q : ℕ) → q < 9 → word_at b q ≡ word_at c q
  front_word q h =
      sym (own_word b q (ten b (omega arith))) ∙ sym (word_take 36 q (section_of b Head) (omega arith))
      ∙ ap (λ (t : List ℕ). word_at t q) s.front
      ∙ word_take 36 q (section_of c Head) (omega arith) ∙ own_word c q (ten c (omega arith))

  one_length : words (header_of b) Head ≡ words (header_of c) Head
  one_length = ap (λ (x : ℤ). words (record { edition = edition_of x; h = 0; pieces = 0; spacing = 0; width = 0; kind = 0; value = 0; effects = 0; rows = 0; records = 0; second = 0 }) Head) (front_word 0 (omega arith))

  pub same_word : (q : ℕ) → q < words (header_of b) Head → ¬ (q ≡ 9) → word_at b q ≡ word_at c q
  same_word q h other = elim (dec_le 9 q) [
    | yes l ↦
        let n = one_length in
        let m : 10 + (q - 10) ≡ q = omega arith in
        sym (own_word b q h) ∙ ap (word_at (section_of b Head)) (sym m) ∙ sym (word_drop 10 (q - 10) (section_of b Head))
        ∙ ap (λ (t : List ℕ). word_at t (q - 10)) s.rest
        ∙ word_drop 10 (q - 10) (section_of c Head) ∙ ap (word_at (section_of c Head)) m ∙ own_word c q (omega arith)
    | no l ↦ front_word q (omega arith)
  ]

  pub same_count : (q : ℕ) → q < 9 → count_at b q ≡ count_at c q
  same_count q h = ap up (front_word q h)

-- a word of a row's first three
pub row_word : (rows : List ℕ) (i j : ℕ) → j < 3 → word_at (row_head rows i) j ≡ word_at rows (4 * i + j)
row_word rows i j h =
    let at : 16 * i ≡ 4 * (4 * i) = omega arith in
    word_take 12 j (drop (16 * i) rows) (omega arith) ∙ ap (λ (n : ℕ). word_at (drop n rows) j) at ∙ word_drop (4 * i) j rows

pub same_agree : {b c : List ℕ} → Same b c → Agree b c
same_agree {b} {c} s =
    record {
      header = same_word b c s;
      line = λ p h. ap (λ (t : List ℕ). word_at t p) s.line;
      transverse = λ p h. ap (λ (t : List ℕ). word_at t p) s.transverse;
      second = λ p h. ap (λ (t : List ℕ). word_at t p) s.second;
      effects = λ p h. ap (λ (t : List ℕ). word_at t p) s.effects;
      row = λ i j h l. sym (row_word (section_of b Rows) i j l) ∙ ap (λ (t : List ℕ). word_at t j) (s.row i h) ∙ row_word (section_of c Rows) i j l;
      factor = λ r e h l m n.
          let k : suc (r - 1) ≡ r = omega arith in
          subst (λ (r : ℕ). row_factor (decode b) r e ≡ row_factor (decode c) r e) k (s.factor (r - 1) e (omega arith) m n);
    }

-- ---- by words, so by bytes
-- a part of a byte string is one
part_bytes : (s : List ℕ) (n : ℕ) → AreBytes s → AreBytes (take n s)
part_bytes s n h i = elim (dec_le n i) [
  | yes l ↦ let m : length (take n s) ≤ i = simp length-take (omega arith) in omega (arith, get_or-eq_default (take n s) 0 m)
  | no l ↦ omega (arith, get_or-take n s i 0 (omega arith), h i)
]

rest_bytes : (s : List ℕ) (n : ℕ) → AreBytes s → AreBytes (drop n s)
rest_bytes s n h i = omega (arith, get_or-drop n s i 0, h (n + i))

section_bytes : (b : List ℕ) → AreBytes b → (part : Part) → AreBytes (section_of b part)
unfolding section
section_bytes b h part = part_bytes (drop (4 * start (header_of b) part) b) (4 * words (header_of b) part) (rest_bytes b (4 * start (header_of b) part) h)

row_bytes_lem : (b : List ℕ) → AreBytes b → (i : ℕ) → AreBytes (row_head (section_of b Rows) i)
row_bytes_lem b h i = part_bytes (drop (16 * i) (section_of b Rows)) 12 (rest_bytes (section_of b Rows) (16 * i) (section_bytes b h Rows))

module _ (b c : List ℕ) (okb : Listed b) (okc : Listed c) (bb : AreBytes b) (bc : AreBytes c) (a : Agree b c) where
  abbrev head : Header
  head = header_of b

  header_is : with_records head (header_of c).records ≡ header_of c
  header_is = same_header b c a.header

  long : (part : Part) → length (section_of b part) ≡ 4 * words head part
  long part = section_length b head part (part_inside b okb.size part)

  -- in a part whose words do not go by C
  also_long : (part : Part) → words (with_records head (header_of c).records) part ≡ words head part → length (section_of c part) ≡ 4 * words head part
  also_long part e = section_length c (header_of c) part (part_inside c okc.size part) ∙ ap (λ (n : ℕ). 4 * n) (sym (ap (λ (x : Header). words x part) header_is) ∙ e)

  part_same : (part : Part) → words (with_records head (header_of c).records) part ≡ words head part → SameWords b c part → section_of b part ≡ section_of c part
  part_same part e same = same_words (section_of b part) (section_of c part) (section_bytes b bb part) (section_bytes c bc part) (words head part) (long part) (also_long part e) same

  header_same : (q : ℕ) → q < words head Head → ¬ (q ≡ 9) → word_at (section_of b Head) q ≡ word_at (section_of c Head) q
  header_same q h other = let e = ap (λ (x : Header). words x Head) header_is in own_word b q h ∙ a.header q h other ∙ sym (own_word c q (omega arith))

  pub agree_same : Same b c
  agree_same =
      let lb = long Head in
      let lc = also_long Head refl in
      let m = header_long head in
      let rb = long Rows in
      let rc = also_long Rows refl in
      record {
        front =
            same_words (take 36 (section_of b Head)) (take 36 (section_of c Head)) (part_bytes (section_of b Head) 36 (section_bytes b bb Head)) (part_bytes (section_of c Head) 36 (section_bytes c bc Head)) 9
            (simp length-take (omega arith)) (simp length-take (omega arith))
            (λ p h. word_take 36 p (section_of b Head) (omega arith) ∙ header_same p (omega arith) (λ e. omega arith) ∙ sym (word_take 36 p (section_of c Head) (omega arith)));
        rest =
            same_words (drop 40 (section_of b Head)) (drop 40 (section_of c Head)) (rest_bytes (section_of b Head) 40 (section_bytes b bb Head)) (rest_bytes (section_of c Head) 40 (section_bytes c bc Head)) (words head Head - 10)
            (simp length-drop (omega arith)) (simp length-drop (omega arith))
            (λ p h. word_drop 10 p (section_of b Head) ∙ header_same (10 + p) (omega arith) (λ e. omega arith) ∙ sym (word_drop 10 p (section_of c Head)));
        line = part_same Line refl a.line;
        transverse = part_same Transverse refl a.transverse;
        second = part_same SecondTransverse refl a.second;
        effects = part_same Effects refl a.effects;
        row = λ i h.
            same_words (row_head (section_of b Rows) i) (row_head (section_of c Rows) i) (row_bytes_lem b bb i) (row_bytes_lem c bc i) 3
            (simp (length-take, length-drop) (omega arith)) (simp (length-take, length-drop) (omega arith))
            (λ p l. row_word (section_of b Rows) i p l ∙ a.row i p h l ∙ sym (row_word (section_of c Rows) i p l));
        factor = λ i e h l m. a.factor (suc i) e (omega arith) h l m;
      }
