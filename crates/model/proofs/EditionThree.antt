-- Where word 0 is 3, what edition 3 adds to a job's words, written out.
use mathlib.Core.Path.{◌≡◌, refl}
use mathlib.Core.Bool.{◌&&◌}
use mathlib.Core.List.{List, [], ◌∷◌}
use Prim.Native.Nat.{ℕ, ◌+◌, ◌*◌, ◌%◌}
use native.Mathlib.Omega.{arith}
use lib.IntN.{pos}
use lib.Dec.{leb, eqb}
use lib.ListN.{length}
use borrow.Author.Tests.{ne_eqb}
use Rattle.words.specs.Words.{word_at, count_at}
use Rattle.words.specs.Fields.{free, range, within, given, ◌of◌, words_in}
use Rattle.model.specs.Format.{is, header_of, piece_length, piece_count, dynamic_fits, least_span_fits, spaces, across_layout, format, words, start, words_due, section_of}
use Rattle.model.specs.Decode.{carriageway, decode}
use Rattle.model.specs.Refusals.{unless, fault1}
use Rattle.model.specs.declared.Edition.TheVariants.{Third}
use Rattle.model.specs.declared.Part.TheVariants.{Head, Line, Transverse, SecondTransverse, Effects}

module _ (b : List ℕ) (third : word_at b 0 ≡ pos 3) where
  is_third : (header_of b).edition ≡ Third
  is_third = rw third refl

  -- 1: under thirteen words, a byte count not divisible by 4, or word 0 not 3
  pub third_frame : fault1 b ≡ unless (leb 52 (length b) && eqb (length b % 4) 0 && is 3 (word_at b 0)) 0
  unfolding fault1
  third_frame = rw is_third refl

  -- 2: thirteen header words, kinds 1 to 4, the last a second width
  pub third_header : format (header_of b) Head ≡ (1 of free ∷ piece_length ∷ given 1 piece_count ∷ range 10 50 ∷ range 300 2079 ∷ range 1 4 ∷ given 5 (λ kind item value. dynamic_fits kind value) ∷ range 0 16 ∷ range 1 32 ∷ range 0 512 ∷ given 5 (λ kind item value. least_span_fits kind value) ∷ range 0 0 ∷ range 300 2079 ∷ [])
  third_header = rw is_third refl

  -- 4: ordinates to 500
  pub third_line : format (header_of b) Line ≡ ((header_of b).pieces of within 500 ∷ within 500 ∷ [])
  third_line = rw is_third refl

  -- the second carriageway: word 12 is its width, its ordinates are g apart as the first one's
  pub third_second : (decode b).second ≡ carriageway (section_of b SecondTransverse) (count_at b 12) (header_of b).spacing
  unfolding decode
  third_second = rw is_third refl

  -- 3: its M + 1 words follow the first one's, and the effects follow them
  module _ (wide : ¬ ((header_of b).width ≡ 0)) (second : ¬ ((header_of b).second ≡ 0)) where
    pub third_sections : let head = header_of b in let first = spaces head.width head.spacing + 1 in let far = spaces head.second head.spacing + 1 in
        (start head Transverse ≡ 13 + 2 * head.pieces) × (start head SecondTransverse ≡ 13 + 2 * head.pieces + first) × (words_due head ≡ 13 + 2 * head.pieces + first + far + 3 * head.effects + 4 * head.rows + 3 * head.records)
    third_sections =
        let head = header_of b in
        let header : words head Head ≡ 13 = rw is_third refl in
        let near : words head Transverse ≡ spaces head.width head.spacing + 1 = across head.width head.spacing wide in
        let far : words head SecondTransverse ≡ spaces head.second head.spacing + 1 = across head.second head.spacing second in
        let effects : words head Effects ≡ 3 * head.effects = rw is_third refl in
        (omega arith, omega arith, omega arith)
      where
        across : (w g : ℕ) → ¬ (w ≡ 0) → words_in (across_layout w g) ≡ spaces w g + 1
        across w g other = rw (ne_eqb w 0 other) (omega arith)
