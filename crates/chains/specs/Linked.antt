-- What is asked of a record section's words, before a chain in it is followed. Record c's words are in the section where c items of it are.
use Rattle.std.specs.Prelude.{ℕ, ◌*◌, ◌≤◌, List, length}
use Rattle.model.specs.Format.{bytes}
use Rattle.model.specs.declared.Part.TheVariants.{Records}
use Rattle.model.specs.Chains.{record_effect, next_record}

-- every record's next is a record or 0
abbrev pub Linked : List ℕ → Type 0
Linked s = (c : ℕ) → 1 ≤ c → bytes Records * c ≤ length s → bytes Records * next_record s c ≤ length s

-- every record's effect is at most n
abbrev pub EffectsTo : ℕ → List ℕ → Type 0
EffectsTo n s = (c : ℕ) → 1 ≤ c → bytes Records * c ≤ length s → record_effect s c ≤ n
