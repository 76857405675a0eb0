-- "The job's words" as one table: for an edition, each part of a job with the number of its items and the limits of their words.
use Rattle.std.specs.Prelude.{ℕ, ◌+◌, ◌-◌, ◌*◌, ◌/◌, if◌then◌else◌, Option, None}
use mathlib.Core.{Bool.Bool, List.List, List.[], List.◌∷◌}
use lib.{IntN.ℤ, IntN.pos, IntN.◌*ℤ◌, Signed.le_z, ListN.length, ListN.take, ListN.drop, Dec.ltb, Dec.eqb}
use Rattle.exact.specs.Choice.{between, or_else}
use Rattle.words.specs.{Words.word_at, Words.count_at, Fields.Field, Fields.Layout, Fields.free, Fields.range, Fields.within, Fields.wide_within, Fields.one_of, Fields.given, Fields.numbered, Fields.both, Fields.◌of◌, Fields.words_in, Fields.moved, Fields.misfit}
use Rattle.model.specs.Job.{Profile, highway, rural}
use Rattle.model.specs.declared.{Edition.Edition, Edition.TheVariants.First, Edition.TheVariants.Second, Edition.TheVariants.Third, Edition.TheVariants.Fourth, Header.Header, Part.Part, Part.TheVariants.Head, Part.TheVariants.Line, Part.TheVariants.Transverse, Part.TheVariants.SecondTransverse, Part.TheVariants.Effects, Part.TheVariants.Rows, Part.TheVariants.Records}

-- x is m
abbrev pub is : ℕ → ℤ → Bool
is m x = between (pos m) (pos m) x

-- the number of an edition, word 0
abbrev pub edition_number : Edition → ℕ
edition_number First = 1
edition_number Second = 2
edition_number Third = 3
edition_number Fourth = 4

-- the edition that word 0 names; where it names none, refusal 1 says so
abbrev pub edition_of : ℤ → Edition
edition_of x = if is (edition_number Fourth) x then Fourth else (if is (edition_number Third) x then Third else (if is (edition_number Second) x then Second else First))

-- an edition's loads
abbrev pub profile_of : Edition → Profile
profile_of First = highway
profile_of Second = highway
profile_of Third = highway
profile_of Fourth = rural

-- the unit of effects: kN·U, each value a word, or N·U, each value a low and a high half
pub data EffectUnit : Type 0 where
  kilonewtons newtons : EffectUnit

-- how an edition writes its effects
abbrev pub effect_unit : Edition → EffectUnit
effect_unit First = kilonewtons
effect_unit Second = newtons
effect_unit Third = newtons
effect_unit Fourth = kilonewtons

-- the second carriageway's width in cm, word 12 of an edition that has one; 0 for none
abbrev pub second_width : Edition → List ℕ → ℕ
second_width First b = 0
second_width Second b = 0
second_width Third b = count_at b 12
second_width Fourth b = 0

-- the header, read once
abbrev pub header_of : List ℕ → Header
header_of b = record {
  edition = edition_of (word_at b 0);
  h = count_at b 1;  -- piece length in dm
  pieces = count_at b 2;  -- N
  spacing = count_at b 3;  -- g, transverse spacing in cm
  width = count_at b 4;  -- W, carriageway width in cm
  kind = count_at b 5;  -- dynamic kind
  value = count_at b 6;  -- and value, with kind 4 the span for greatest
  effects = count_at b 7;  -- E
  rows = count_at b 8;  -- R
  records = count_at b 9;  -- C
  second = second_width (edition_of (word_at b 0)) b;  -- the second carriageway's width in cm
}

-- h, a piece's length in dm
abbrev pub piece_length : Field
piece_length = one_of (1 ∷ 2 ∷ 5 ∷ 10 ∷ 25 ∷ 50 ∷ [])

-- N pieces of this length: 1 to 1000, at most 1000 dm in all
abbrev pub piece_count : ℤ → Field
piece_count h = both (range 1 1000) (λ item n. le_z (n *ℤ h) (pos 1000))

-- n pieces of a line whose ordinates are from -most to most
abbrev pub line_layout : (most n : ℕ) → Layout
line_layout most n = n of
    within most  -- left ordinate, in U
    ∷ within most  -- right ordinate
    ∷ []

-- the most of a line's ordinates: of one carriageway, and of two
abbrev pub ordinate_limit : Edition → ℕ
ordinate_limit First = 5000
ordinate_limit Second = 5000
ordinate_limit Third = 500
ordinate_limit Fourth = 5000

-- the dynamic kinds of an edition: from 1 to this
abbrev pub dynamic_kinds : Edition → ℕ
dynamic_kinds First = 3
dynamic_kinds Second = 4
dynamic_kinds Third = 4
dynamic_kinds Fourth = 3

-- a span L: 1 to 2000 dm
abbrev pub span_fits : ℤ → Bool
span_fits l = between (pos 1) (pos 2000) l

-- kind 1 with 1000 to 1300; kind 2 with 0; kind 3 with 0 to 5000; kind 4 with a span, for greatest (another kind is its own word's fault)
abbrev pub dynamic_fits : (kind value : ℤ) → Bool
dynamic_fits kind value =
    if is 1 kind then between (pos 1000) (pos 1300) value
    else (if is 2 kind then is 0 value else (if is 3 kind then between (pos 0) (pos 5000) value else span_fits value))

-- kind 4 with a span, for least; another kind with 0
abbrev pub least_span_fits : (kind value : ℤ) → Bool
least_span_fits kind value = if is 4 kind then span_fits value else is 0 value

-- W, a carriageway's width in cm
abbrev pub carriageway_width : Field
carriageway_width = range 300 2079

-- M: W / g rounded up
abbrev pub spaces : ℕ → ℕ → ℕ
spaces w g = (w + g - 1) / g

-- the transverse section of a carriageway W cm wide, M + 1 ordinates; none of no carriageway, whose width is 0
abbrev pub across_layout : (w g : ℕ) → Layout
across_layout w g = (if eqb w 0 then 0 else spaces w g + 1) of
    within 1000  -- ordinate in thousandths, the first at the left kerb
    ∷ []

-- the header's words 7, 8 and 9 where the job lists its rows, and those after them
abbrev pub listed_counts : List Field → List Field
listed_counts more =
    range 0 16  -- E
    ∷ range 1 32  -- R
    ∷ range 0 512  -- C
    ∷ more

-- the header's words from 7 on where effects are in N·U, and those after word 11
abbrev pub newton_counts : List Field → List Field
newton_counts more =
    listed_counts
    (given 5 (λ kind item value. least_span_fits kind value)  -- word 10: with kind 4 the span for least, else 0
    ∷ range 0 0  -- word 11: 0
    ∷ more)

-- the header's words from word 7 on, by edition
abbrev pub table_counts : Edition → List Field
table_counts First = listed_counts []
table_counts Second = newton_counts []
table_counts Third =
    newton_counts
    (carriageway_width  -- word 12: W of the second carriageway
    ∷ [])
table_counts Fourth =
    range 11 11  -- E: DL, EP, OW, SG, ST, TP, HE, WD, FW, EQ, CN
    ∷ range 0 0  -- R: the rows are built in
    ∷ range 0 0  -- C
    ∷ range 1 3  -- barriers: 1 none, 2 pedestrian, 3 traffic
    ∷ []

-- an effect's mark, 1 always present, 2 may be left out; a rural bridge's DL, EP and OW have 1, the others 2
abbrev pub mark : Profile → Field
mark highway = range 1 2
mark rural = numbered (λ i. let m = if ltb i 3 then 1 else 2 in range m m)

-- an effect's words: its value, then its mark, which tells whether it may be left out
abbrev pub effect_fields : EffectUnit → Profile → List Field
effect_fields kilonewtons profile =
    within 1000000000  -- value in kN·U
    ∷ mark profile
    ∷ []
effect_fields newtons profile =
    given 1 (wide_within 100000000000000)  -- low half of the value in N·U, at fault if the value is outside its limits
    ∷ free  -- its high half
    ∷ mark profile
    ∷ []

-- the table: so many items of these fields, a line a word
abbrev pub format : Header → Part → Layout
format head Head = 1 of
    free  -- edition: refusal 1 tests it
    ∷ piece_length  -- h
    ∷ given 1 piece_count  -- N
    ∷ range 10 50  -- g
    ∷ carriageway_width  -- W
    ∷ range 1 (dynamic_kinds head.edition)  -- dynamic kind
    ∷ given 5 (λ kind item value. dynamic_fits kind value)  -- dynamic value
    ∷ table_counts head.edition  -- E, R, C and what the edition adds
format head Line = line_layout (ordinate_limit head.edition) head.pieces
format head Transverse = across_layout head.width head.spacing
format head SecondTransverse = across_layout head.second head.spacing
format head Effects = head.effects of effect_fields (effect_unit head.edition) (profile_of head.edition)
format head Rows = head.rows of
    range 1 2  -- 1 service, 2 ultimate
    ∷ range 0 2  -- live kind: 0 none, 1 normal, 2 overload
    ∷ given 1 (λ live. range 0 (if is 0 live then 0 else 3000))  -- live factor, 0 for kind 0
    ∷ range 0 head.records  -- first record
    ∷ []
format head Records = head.records of
    range 1 head.effects  -- effect
    ∷ range 0 3000  -- factor
    ∷ range 0 head.records  -- next record
    ∷ []

-- the parts before a part
abbrev pub before : Part → List Part
before Head = []
before Line = Head ∷ []
before Transverse = Head ∷ Line ∷ []
before SecondTransverse = Head ∷ Line ∷ Transverse ∷ []
before Effects = Head ∷ Line ∷ Transverse ∷ SecondTransverse ∷ []
before Rows = Head ∷ Line ∷ Transverse ∷ SecondTransverse ∷ Effects ∷ []
before Records = Head ∷ Line ∷ Transverse ∷ SecondTransverse ∷ Effects ∷ Rows ∷ []

-- ---- all else, for any table

-- an edition 1 header without counts
abbrev no_counts : Header
no_counts = record { edition = First; h = 0; pieces = 0; spacing = 0; width = 0; kind = 0; value = 0; effects = 0; rows = 0; records = 0; second = 0 }

-- the words of an item of a part, whatever the counts, in edition 1; others differ in the header and the effects alone
abbrev pub size : Part → ℕ
size part = length (format no_counts part).fields

-- the bytes of an item of a part, in edition 1
abbrev pub bytes : Part → ℕ
bytes part = 4 * size part

-- the words of an effect, the same for all loads
abbrev pub effect_size : EffectUnit → ℕ
effect_size u = length (effect_fields u highway)

-- the bytes of an effect
abbrev pub effect_bytes : EffectUnit → ℕ
effect_bytes u = 4 * effect_size u

-- a part's words
abbrev pub words : Header → Part → ℕ
words head part = words_in (format head part)

-- the words of some parts
abbrev pub total : Header → List Part → ℕ
total head [] = 0
total head (part ∷ rest) = words head part + total head rest

-- a part starts where the one before it ends
abbrev pub start : Header → Part → ℕ
start head part = total head (before part)

-- the word count that the header calls for
abbrev pub words_due : Header → ℕ
words_due head = start head Records + words head Records

-- a part's own bytes of a job
unfoldable pub section : List ℕ → Header → Part → List ℕ
section b head part = take (4 * words head part) (drop (4 * start head part) b)

-- by the job's own header
abbrev pub section_of : List ℕ → Part → List ℕ
section_of b part = section b (header_of b) part

-- the lowest place at fault in a part, as a place of the job
abbrev pub fault : List ℕ → Header → Part → Option ℕ
fault b head part = moved (start head part) (misfit (format head part) (section b head part))

-- the lowest place at fault in some parts, in order
abbrev pub fault_in : List ℕ → Header → List Part → Option ℕ
fault_in b head [] = None
fault_in b head (part ∷ rest) = or_else (fault b head part) (fault_in b head rest)
