-- What an accepted job gives each part of its account: its section has its words, within their limits.
use Rattle.std.specs.Prelude.{if◌then◌else◌}
use mathlib.Core.Path.{◌≡◌, refl, sym, ap, subst}
use mathlib.Core.Logic.{◌⊎◌, inl, inr}
use mathlib.Core.Bool.{Bool}
use mathlib.Core.List.{List, [], ◌∷◌}
use Prim.Native.Nat.{ℕ, ◌+◌, ◌*◌, ◌≤◌, ◌<◌}
use native.Mathlib.Omega.{arith}
use lib.IntN.{ℤ}
use borrow.Author.Tests.{ne_eqb}
use lib.ListN.{length}
use Rattle.exact.specs.Bounds.{Within}
use Rattle.exact.specs.declared.Question.{Question}
use Rattle.words.specs.Words.{word_at}
use Rattle.model.specs.Job.{rural, Live, Limit}
use Rattle.model.specs.Decode.{influence_line, decode, dynamic_value, effect_at, row_count, row_of}
use Rattle.model.specs.RecordsWalked.{walked_to, records_walked}
use Rattle.model.specs.Lanes.{lanes}
use Rattle.model.specs.Answers.{State}
use Rattle.model.specs.Dynamic.{dynamic_factor}
use Rattle.model.specs.Format.{profile_of, effect_unit, ordinate_limit, header_of, spaces, across_layout, section_of}
use Rattle.model.specs.declared.Edition.{Edition}
use Rattle.model.specs.declared.Header.{Header}
use Rattle.model.specs.declared.Part.TheVariants.{Line, Transverse, SecondTransverse, Effects, Rows, Records}
use Rattle.model.proofs.Counts.{OneOf}
use Rattle.model.proofs.Verdict.{Clear, clear, has_header}
use Rattle.model.proofs.HeaderLimits.{HeaderFits, Carriageways, one, two, header_fits, dynamic_range, dynamic_most}
use Rattle.model.proofs.Lanes.{Spaced}
use Rattle.model.proofs.LineLimits.{line_limited, line_within, transverse_within, second_within, OneSigned}
use Rattle.model.proofs.Accepted.{accepted_signed, accepted_spaced, accepted_one_lane}
use Rattle.magnitudes.proofs.LineEffects.{OrdinatesWithin}
use Rattle.sections.specs.Sized.{Sized}
use Rattle.sections.proofs.Sizes.{is_sized, part_length}
use Rattle.pair.specs.LineFits.{LineFits}
use Rattle.centres.specs.Transverse.{TransverseFits}
use Rattle.rows.specs.Tables.{TablesFit}
use Rattle.rows.specs.Governed.{StateFound}
use Rattle.rows.proofs.Sections.{tables_fit}
use Rattle.accepted.specs.AccountParts.{Ready}

-- a piece is from 1 to 50 dm long
length_range : (h : ℕ) → OneOf (1 ∷ 2 ∷ 5 ∷ 10 ∷ 25 ∷ 50 ∷ []) h → (1 ≤ h) × (h ≤ 50)
length_range h (inl e) = omega arith
length_range h (inr (inl e)) = omega arith
length_range h (inr (inr (inl e))) = omega arith
length_range h (inr (inr (inr (inl e)))) = omega arith
length_range h (inr (inr (inr (inr (inl e))))) = omega arith
length_range h (inr (inr (inr (inr (inr (inl e)))))) = omega arith
length_range h (inr (inr (inr (inr (inr (inr x6)))))) = elim x6 [ ]

module _ {b : List ℕ} {head : Header} (ready : Ready b head) where
  c : Clear b
  c = clear b ready.accepted

  header : HeaderFits b
  header = header_fits b c.c2

  -- what holds of the job's own header holds of this one
  own : (P : Header → Type 0) → P (header_of b) → P head
  own P p = subst P (sym ready.own) p

  pub sized : Sized b head
  sized = is_sized b ready.own c.c1 c.c2 c.c3

  pub line_fits : LineFits (section_of b Line) head.pieces
  line_fits =
      let e = part_length sized Line in
      own (λ h. LineFits (section_of b Line) h.pieces) (record { room = omega arith; few = header.pieces.most; near = line_within b c.c4 })

  pub line_limits : (1 ≤ head.h) × ((head.h ≤ 50) × (head.pieces * head.h ≤ 1000))
  line_limits =
      let l = length_range _ header.length in
      own (λ h. (1 ≤ h.h) × ((h.h ≤ 50) × (h.pieces * h.h ≤ 1000))) (l.0, (l.1, header.reach))

  -- a section with the ordinates of its carriageway
  section_fits : (s : List ℕ) (w : ℕ) → 300 ≤ w → w ≤ 2079 → length s ≡ 4 * (1 * (across_layout w (header_of b).spacing).items) → ((k : ℕ) → k < (across_layout w (header_of b).spacing).items → Within 1000 (word_at s k)) → TransverseFits s w (header_of b).spacing
  section_fits s w wide narrow long near =
      let items : (across_layout w (header_of b).spacing).items ≡ spaces w (header_of b).spacing + 1 = ap (λ (t : Bool). if t then 0 else spaces w (header_of b).spacing + 1) (ne_eqb w 0 (λ e. omega arith)) in
      record {
        wide = wide;
        narrow = narrow;
        apart = header.spacing.least;
        close = header.spacing.most;
        room = omega arith;
        near = λ k h. near k (omega arith);
      }

  pub across_fits : TransverseFits (section_of b Transverse) head.width head.spacing
  across_fits =
      own (λ h. TransverseFits (section_of b Transverse) h.width h.spacing)
      (section_fits (section_of b Transverse) (header_of b).width header.wide.least header.wide.most (part_length sized Transverse) (transverse_within b c.c4))

  pub second_fits : 0 < head.second → TransverseFits (section_of b SecondTransverse) head.second head.spacing
  second_fits = own (λ h. 0 < h.second → TransverseFits (section_of b SecondTransverse) h.second h.spacing) (go header.carriageways)
    where
      go : Carriageways b → 0 < (header_of b).second → TransverseFits (section_of b SecondTransverse) (header_of b).second (header_of b).spacing
      go (one z) h = absurd (omega arith)
      go (two e wide narrow) h = section_fits (section_of b SecondTransverse) (header_of b).second wide narrow (part_length sized SecondTransverse) (second_within b c.c4)

  -- the line's ordinates are from -5000 to 5000
  pub line_near : OrdinatesWithin 5000 (decode b).line
  unfolding decode
  line_near = λ i h. (line_within b c.c4 (2 * i) (omega arith), line_within b c.c4 (2 * i + 1) (omega arith))

  -- with two carriageways the line's ordinates are from -500 to 500
  pub line_tenth : ((decode b).second.width ≡ 0) ⊎ OrdinatesWithin 500 (decode b).line
  unfolding decode
  line_tenth = go header.carriageways
    where
      go : Carriageways b → ((header_of b).second ≡ 0) ⊎ OrdinatesWithin 500 (influence_line (section_of b Line) (header_of b).h (header_of b).pieces)
      go (one z) = inl z
      go (two e wide narrow) = inr (λ i h. (word (2 * i) (omega arith), word (2 * i + 1) (omega arith)))
        where
          word : (k : ℕ) → k < 2 * (header_of b).pieces → Within 500 (word_at (section_of b Line) k)
          word k l = subst (λ (x : Edition). Within (ordinate_limit x) (word_at (section_of b Line) k)) e (line_limited b c.c4 k l)

  -- its pieces are at most 1000 dm long together
  pub line_reach : (decode b).line.pieces * (decode b).line.h ≤ 1000
  unfolding decode
  line_reach = header.reach

  pub tables : TablesFit (section_of b Effects) (section_of b Rows) (section_of b Records) head
  tables = own (TablesFit (section_of b Effects) (section_of b Rows) (section_of b Records)) (tables_fit b ready.accepted)

  -- a rural bridge has one lane
  pub one_lane : profile_of head.edition ≡ rural → lanes (decode b) ≡ 1
  one_lane = own (λ h. profile_of h.edition ≡ rural → lanes (decode b) ≡ 1) (accepted_one_lane b ready.accepted)

  -- its loads are its edition's
  pub profile_is : (decode b).profile ≡ profile_of head.edition
  unfolding decode
  profile_is = own (λ h. profile_of (header_of b).edition ≡ profile_of h.edition) refl

  -- what a question's dynamic factor asks: word 10 with kind 4, and a value of at most 5000
  pub dynamic_limits : (q : Question) → (head.kind ≡ 4 → 44 ≤ length b) × (dynamic_value b head q ≤ 5000)
  dynamic_limits q =
      own (λ h. (h.kind ≡ 4 → 44 ≤ length b) × (dynamic_value b h q ≤ 5000))
      (λ k. omega (arith, header.kind4 k, has_header b c.c1), dynamic_most (header.dynamic q))

  -- it is from 1000 to 1300
  pub dynamic : (q : Question) → (1000 ≤ dynamic_factor head.kind (dynamic_value b head q)) × (dynamic_factor head.kind (dynamic_value b head q) ≤ 1300)
  dynamic q = own (λ h. (1000 ≤ dynamic_factor h.kind (dynamic_value b h q)) × (dynamic_factor h.kind (dynamic_value b h q) ≤ 1300)) (dynamic_range _ _ (header.dynamic q))

  pub signed : OneSigned (decode b).line
  signed = accepted_signed b ready.accepted

  pub spaced : Spaced (decode b)
  spaced = accepted_spaced b ready.accepted

  -- the three sections as they were found
  module _ {e r s : List ℕ} (p : e ≡ section_of b Effects) (q : r ≡ section_of b Rows) (t : s ≡ section_of b Records) where
    pub tables_found : TablesFit e r s head
    tables_found = rw (p, q, t) tables

    -- what is so of them is so of the job's
    told : (P : Header → (effects rows records : List ℕ) → Type 0) → P head e r s → P (header_of b) (section_of b Effects) (section_of b Rows) (section_of b Records)
    told P f =
        subst (λ (h : Header). P h (section_of b Effects) (section_of b Rows) (section_of b Records)) ready.own
        (subst (λ (l : List ℕ). P head l (section_of b Rows) (section_of b Records)) p
        (subst (λ (l : List ℕ). P head e l (section_of b Records)) q (subst (P head e r) t f)))

    -- a state found in them
    pub state_found : (traffic : Question → Live → ℤ) (limit : Limit) (x : State) → StateFound (effect_at (effect_unit head.edition) e) (row_of (profile_of head.edition) r s head.records) traffic limit (row_count (profile_of head.edition) head.rows) x → StateFound (decode b).effect (decode b).row traffic limit (decode b).rows x
    unfolding decode
    state_found traffic limit x = told (λ h e r s. StateFound (effect_at (effect_unit h.edition) e) (row_of (profile_of h.edition) r s h.records) traffic limit (row_count (profile_of h.edition) h.rows) x)

    -- and the records walked
    pub walked_found : (n : ℕ) → n ≡ walked_to (profile_of head.edition) (row_of (profile_of head.edition) r s head.records) (row_count (profile_of head.edition) head.rows) → n ≡ records_walked (decode b)
    unfolding decode
    walked_found n = told (λ h e r s. n ≡ walked_to (profile_of h.edition) (row_of (profile_of h.edition) r s h.records) (row_count (profile_of h.edition) h.rows))
