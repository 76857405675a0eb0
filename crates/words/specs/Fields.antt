-- What the table of a format is made of: a section has items, an item has fields, and a field is a word with limits.
use Rattle.std.specs.Prelude.{ℕ, zero, suc, ◌+◌, ◌*◌, Bool, true, false, ◌&&◌, ◌||◌, List, [], ◌∷◌, ℤ, pos, neg_ℤ, length, if◌then◌else◌, Option, None, Some}
use Rattle.exact.specs.Choice.{between, or_else}
use Rattle.words.specs.Words.{word_at, wide}

-- an item: its number in its section, from 0, and its words
pub record Item : Type 0 where
  pub number : ℕ
  pub word : ℕ → ℤ

-- a field: whether it admits its word, in an item
abbrev pub Field : Type 0
Field = Item → ℤ → Bool

-- any word
abbrev pub free : Field
free item x = true

-- from lo to hi
abbrev pub range : (lo hi : ℕ) → Field
range lo hi item x = between (pos lo) (pos hi) x

-- from -m to m
abbrev pub within : ℕ → Field
within m item x = between (neg_ℤ (pos m)) (pos m) x

-- the low half of a number from -m to m, given its high half
abbrev pub wide_within : ℕ → (high : ℤ) → Field
wide_within m high item low = between (neg_ℤ (pos m)) (pos m) (wide low high)

-- one of these numbers
abbrev pub one_of : List ℕ → Field
one_of [] item x = false
one_of (m ∷ rest) item x = range m m item x || one_of rest item x

-- limits that hang on word j of the item
abbrev pub given : ℕ → (ℤ → Field) → Field
given j limits item x = limits (item.word j) item x

-- limits that hang on the item's number
abbrev pub numbered : (ℕ → Field) → Field
numbered limits item x = limits item.number item x

-- both
abbrev pub both : Field → Field → Field
both f g item x = f item x && g item x

-- a field's limits for a number that is in no item
abbrev pub admits : Field → ℤ → Bool
admits field x = field (record { number = 0; word = λ j. pos 0 }) x

-- a section: so many items of these fields
pub record Layout : Type 0 where
  pub items : ℕ
  pub fields : List Field

infix 3 ◌of◌
abbrev pub ◌of◌ : ℕ → List Field → Layout
n of fields = record { items = n; fields = fields }

-- a section's words
abbrev pub words_in : Layout → ℕ
words_in l = length l.fields * l.items

-- a place so many words on
abbrev pub moved : ℕ → Option ℕ → Option ℕ
moved start None = None
moved start (Some p) = Some (start + p)

-- the first of an item's fields that does not admit its word, the fields counting from j
abbrev pub misfit_from : ℕ → List Field → Item → Option ℕ
misfit_from j [] item = None
misfit_from j (field ∷ rest) item = if field item (item.word j) then misfit_from (suc j) rest item else Some j

-- item i, whose first word is at place p
abbrev pub item_from : List ℕ → ℕ → ℕ → Item
item_from s p i = record { number = i; word = λ j. word_at s (p + j) }

-- the place at fault in item i of a section
abbrev pub item_misfit : List Field → List ℕ → ℕ → Option ℕ
item_misfit fields s i = moved (length fields * i) (misfit_from 0 fields (item_from s (length fields * i) i))

-- the first answer among f i, f (i + 1), .., n of them
abbrev pub first_answer : ℕ → ℕ → (ℕ → Option ℕ) → Option ℕ
first_answer i zero f = None
first_answer i (suc n) f = or_else (f i) (first_answer (suc i) n f)

-- the lowest place at fault in a section, from its own first word
unfoldable pub misfit : Layout → List ℕ → Option ℕ
misfit l s = first_answer 0 l.items (item_misfit l.fields s)
