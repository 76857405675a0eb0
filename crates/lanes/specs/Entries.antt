-- A lane's best element: raising where the question's ordinate is, or lowering where the other question's is.
use Rattle.std.specs.Prelude.{ℕ, ◌<◌, max, ℤ, pos, ◌*ℤ◌, get_or, ltb, ◌≤ℤ◌, if◌then◌else◌}
use Rattle.exact.specs.Bounds.{Within}
use Rattle.exact.specs.Questions.{other, for_question, better_by}
use Rattle.exact.specs.declared.Question.{Question}
use Rattle.model.specs.declared.BySense.{BySense}
use Rattle.model.specs.declared.Sense.TheVariants.{Raising, Lowering}
use Rattle.magnitudes.specs.Magnitudes.{among}
use Rattle.centres.specs.Spans.{Span, no_span}
use Rattle.centres.specs.declared.across.Across.{Across}
use Rattle.lanes.specs.declared.entries.Chosen.{Chosen}

-- raising and lowering line effects
abbrev pub Effects : Type 0
Effects = BySense ℤ

-- line effects: raising is not below 0, lowering not above, both at most b from 0
pub record LineEffectsFit (b : ℕ) (e : Effects) : Type 0 where
  pub up : pos 0 ≤ℤ e.raising
  pub down : e.lowering ≤ℤ pos 0
  pub raising : Within b e.raising
  pub lowering : Within b e.lowering

-- a lane's raising element, at the question's best ordinate
abbrev pub raising_of : Question → Span → Effects → Chosen
raising_of q span e = let c = for_question q span in record { value = c.ordinate *ℤ e.raising; sense = Raising; centre = c.at }

-- its lowering element, at the other question's best ordinate
abbrev pub lowering_of : Question → Span → Effects → Chosen
lowering_of q span e = let c = for_question (other q) span in record { value = c.ordinate *ℤ e.lowering; sense = Lowering; centre = c.at }

-- the better of a lane's two elements, raising at a tie
abbrev pub chosen : Question → Span → Effects → Chosen
chosen q span e = better_by (λ c. c.value) q (raising_of q span e) (lowering_of q span e)

-- ---- the lanes of both carriageways

-- n of the carriageway that lane i is not on, 1 where there is none
abbrev pub other_in : (first second : ℕ) → (i : ℕ) → ℕ
other_in first second i = if ltb i first then max 1 second else first

-- line effects times so much
abbrev pub times : ℕ → Effects → Effects
times m e = record { raising = pos m *ℤ e.raising; lowering = pos m *ℤ e.lowering }

-- line effects as lane i counts them: an n-th of a cm of its carriageway is so many units as the other one has lanes
abbrev pub effects_in : Across → Effects → ℕ → Effects
effects_in across e i = times (other_in across.first across.second i) e

-- line effects near enough to go on, for themselves and in each lane
pub record LoadsFit (most : ℕ) (across : Across) (e : Effects) : Type 0 where
  pub own : LineEffectsFit most e
  pub each : (i : ℕ) → i < across.lanes → LineEffectsFit (among across.lanes most) (effects_in across e i)

-- the better element of lane i
abbrev pub chosen_in : Question → Across → Effects → ℕ → Chosen
chosen_in q across e i = chosen q (get_or across.spans i no_span) (effects_in across e i)
