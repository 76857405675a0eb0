-- Where word 0 names no later edition, a job is judged and decoded as document 01 has it: here is all that asks the edition, at edition 1.
use mathlib.Core.Path.{◌≡◌, refl}
use mathlib.Core.Bool.{false, ◌&&◌}
use Rattle.std.specs.Prelude.{None}
use mathlib.Core.List.{List, [], ◌∷◌}
use Prim.Native.Nat.{ℕ, ◌+◌, ◌-◌, ◌*◌, ◌%◌}
use native.Mathlib.Nat.{add-zero, mul-one}
use lib.IntN.{pos, ◌*ℤ◌}
use lib.Dec.{leb, eqb}
use lib.ListN.{length}
use Rattle.words.specs.Words.{word_at, count_at}
use Rattle.words.specs.Fields.{free, range, within, given, ◌of◌, misfit}
use Rattle.model.specs.Format.{is, header_of, piece_length, piece_count, dynamic_fits, format, words, section_of}
use Rattle.model.specs.Job.{highway}
use Rattle.model.specs.Decode.{row_at, decode}
use Rattle.model.specs.Lanes.{lane_count, second_lanes, lanes, unit}
use Rattle.model.specs.Refusals.{unless, fault1, fault11}
use Rattle.model.specs.declared.Edition.TheVariants.{First}
use Rattle.model.specs.declared.Part.TheVariants.{Head, Line, SecondTransverse, Effects, Rows, Records}

module _ (b : List ℕ) (not-2 : is 2 (word_at b 0) ≡ false) (not-3 : is 3 (word_at b 0) ≡ false) (not-4 : is 4 (word_at b 0) ≡ false) where
  is_first : (header_of b).edition ≡ First
  is_first = rw (not-4, not-3, not-2) refl

  -- 1: under ten words, a byte count not divisible by 4, or word 0 not 1
  pub first_frame : fault1 b ≡ unless (leb 40 (length b) && eqb (length b % 4) 0 && is 1 (word_at b 0)) 0
  unfolding fault1
  first_frame = rw is_first refl

  -- 2: ten header words; word 6 of kinds 1 to 3 by `value_to_kind_3` (Dynamic)
  pub first_header : format (header_of b) Head ≡ (1 of free ∷ piece_length ∷ given 1 piece_count ∷ range 10 50 ∷ range 300 2079 ∷ range 1 3 ∷ given 5 (λ kind item value. dynamic_fits kind value) ∷ range 0 16 ∷ range 1 32 ∷ range 0 512 ∷ [])
  first_header = rw is_first refl

  -- 3: no second carriageway, and no words of one
  pub first_across : ((header_of b).second ≡ 0) × (words (header_of b) SecondTransverse ≡ 0)
  first_across = rw is_first (refl, refl)

  -- 4: ordinates to 5000
  pub first_line : format (header_of b) Line ≡ ((header_of b).pieces of within 5000 ∷ within 5000 ∷ [])
  first_line = rw is_first refl

  -- 6: two words an effect
  pub first_effects : format (header_of b) Effects ≡ ((header_of b).effects of within 1000000000 ∷ range 1 2 ∷ [])
  first_effects = rw is_first refl

  -- 11: never, for a highway's width has no band
  pub first_width : fault11 b ≡ None
  unfolding fault11 misfit
  first_width = rw is_first refl

  -- the lanes of its one carriageway
  pub first_lanes : (lanes (decode b) ≡ lane_count (header_of b).width) × (unit (decode b) ≡ lane_count (header_of b).width)
  unfolding decode lanes second_lanes unit
  first_lanes = rw is_first (add-zero (lane_count (header_of b).width), mul-one (lane_count (header_of b).width))

  -- 1000 times the effect's word, which its mark follows
  pub first_effect : (e : ℕ) → let s = section_of b Effects in (decode b).effect e ≡ record { value = pos 1000 *ℤ word_at s (2 * (e - 1)); optional = eqb (count_at s (2 * (e - 1) + 1)) 2 }
  unfolding decode
  first_effect e = rw is_first refl

  -- the loads of a highway, and the rows that the job lists
  pub first_rows : ((decode b).profile ≡ highway) × ((decode b).rows ≡ (header_of b).rows) × ((decode b).row ≡ row_at (section_of b Rows) (section_of b Records) (header_of b).records)
  unfolding decode
  first_rows = rw is_first (refl, refl, refl)
