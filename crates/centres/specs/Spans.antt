-- What a lane's best centres are.
use Rattle.std.specs.Prelude.{ℕ, ◌+◌, ◌≤◌, ◌<◌, ◌≡◌, ◌⊎◌, List, pos, ◌≤ℤ◌, get_or, eqb, if◌then◌else◌}
use Rattle.exact.specs.Bounds.{Within}
use Rattle.exact.specs.declared.Question.{Question}
use Rattle.exact.specs.declared.ByQuestion.{ByQuestion}
use Rattle.exact.specs.Questions.{for_question}
use Rattle.model.specs.Job.{Carriageway, Job}
use Rattle.model.specs.Decode.{carriageway}
use Rattle.model.specs.Lanes.{lane_count, lanes_of, lowest, highest, transverse_at, best_ordinate}
use Rattle.magnitudes.specs.Magnitudes.{transverse_most}
use Rattle.centres.specs.declared.Centre.{Centre}
use Rattle.centres.specs.declared.Decks.{Decks}
use Rattle.centres.specs.Transverse.{TransverseFits}

-- a centre of lane i with the ordinate there, the lane's best for the question
pub record CentreRight (q : Question) (deck : Carriageway) (i : ℕ) (c : Centre) : Type 0 where
  pub from : lowest deck i ≤ c.at
  pub to : c.at ≤ highest deck i
  pub here : transverse_at deck (lanes_of deck) c.at ≡ c.ordinate
  pub best : c.ordinate ≡ best_ordinate q deck i
  pub near : Within transverse_most c.ordinate

-- a lane's greatest and least ordinate
abbrev pub Span : Type 0
Span = ByQuestion Centre

-- lane i's best centre for either question
pub record SpanRight (deck : Carriageway) (i : ℕ) (s : Span) : Type 0 where
  pub each : (q : Question) → CentreRight q deck i (for_question q s)

-- centre 0 with ordinate 0
abbrev pub no_centre : Centre
no_centre = record { ordinate = pos 0; at = 0 }

-- the span of no lane
abbrev pub no_span : Span
no_span = record { greatest = no_centre; least = no_centre }

-- both ordinates are near enough to go on, the least not above the greatest
pub record SpanFits (span : Span) : Type 0 where
  pub near : (q : Question) → Within transverse_most (for_question q span).ordinate
  pub order : span.least.ordinate ≤ℤ span.greatest.ordinate

-- one to five lanes on the first carriageway, at most five on the second, each span near enough
pub record AcrossFits (all : List Span) (first second both denominator : ℕ) : Type 0 where
  pub some : 0 < first
  pub few : first ≤ 5
  pub second_few : second ≤ 5
  pub lanes : both ≡ first + second
  pub apart : 10 ≤ denominator
  pub close : denominator ≤ 1250
  pub spans : (i : ℕ) → i < both → SpanFits (get_or all i no_span)

-- a width within its limits, or 0 for no carriageway
abbrev pub WidthFits : ℕ → Type 0
WidthFits w = (w ≡ 0) ⊎ ((300 ≤ w) × (w ≤ 2079))

-- the carriageways' sections have their ordinates, and their lanes are counted
pub record DecksFit (near far : List ℕ) (d : Decks) : Type 0 where
  pub first : TransverseFits near d.width d.g
  pub lanes : d.lanes ≡ lane_count d.width
  pub second : 0 < d.second → TransverseFits far d.second d.g
  pub beyond : d.beyond ≡ (if eqb d.second 0 then 0 else lane_count d.second)

-- a job whose carriageways are those of these sections and widths
pub record DecksOf (near far : List ℕ) (w v g : ℕ) (job : Job) : Type 0 where
  pub deck : job.deck ≡ carriageway near w g
  pub second : job.second ≡ carriageway far v g
