-- What is asked of the effect and record sections before a chain is added up. An item's words are in its section where the item's number times its bytes is at most the section's length.
use Rattle.std.specs.Prelude.{ℕ, ◌*◌, ◌≤◌, ◌≡◌, false, List, [], ◌∷◌, length}
use Rattle.exact.specs.Bounds.{Within}
use Rattle.magnitudes.specs.Magnitudes.{effect_most}
use Rattle.model.specs.Format.{EffectUnit, bytes, effect_bytes}
use Rattle.model.specs.Decode.{effect_at}
use Rattle.model.specs.declared.Part.TheVariants.{Records}
use Rattle.model.specs.Chains.{record_effect, record_factor, next_record}
use Rattle.model.specs.Job.{Term}
use Rattle.model.specs.Rows.{names}

-- no two of the terms name the same effect
abbrev pub Distinct : List Term → Type 0
Distinct [] = Unit {0}
Distinct (t ∷ rest) = (names rest t.effect ≡ false) × Distinct rest

-- every term names one of effects 1 .. n
abbrev pub NamesTo : ℕ → List Term → Type 0
NamesTo n [] = Unit {0}
NamesTo n (t ∷ rest) = (1 ≤ t.effect) × (t.effect ≤ n) × NamesTo n rest

-- every effect's value is within the limits of one in N·U, which are the wider ones
abbrev pub EffectsInReach : EffectUnit → List ℕ → Type 0
EffectsInReach unit s = (e : ℕ) → 1 ≤ e → effect_bytes unit * e ≤ length s → Within effect_most (effect_at unit s e).value

-- record c names an effect of the section, at most 16; its factor is within its limits, and its next is a record or 0
pub record RecordInTables (unit : EffectUnit) (effects s : List ℕ) (c : ℕ) : Type 0 where
  pub effect : 1 ≤ record_effect s c
  pub most : record_effect s c ≤ 16
  pub there : effect_bytes unit * record_effect s c ≤ length effects
  pub factor : record_factor s c ≤ 3000
  pub next : bytes Records * next_record s c ≤ length s

-- every record is such
abbrev pub RecordsInTables : EffectUnit → (effects : List ℕ) → List ℕ → Type 0
RecordsInTables unit effects s = (c : ℕ) → 1 ≤ c → bytes Records * c ≤ length s → RecordInTables unit effects s c
