-- An account's placements as numbers.
use Rattle.std.specs.Prelude.{ℕ, zero, suc, List, [], ◌∷◌, ◌++◌, ℤ, pos}
use Rattle.model.specs.Numbers.{entry_number}
use Rattle.model.specs.Answered.{lane_at}
use Rattle.model.specs.declared.Lane.{Lane}
use Rattle.model.specs.declared.Placement.{Placement}
use Rattle.model.specs.Answers.{Traffic}

-- a lane's entry, its centre and its factor in twentieths
abbrev pub lane_numbers : Lane → List ℤ
lane_numbers l = pos (entry_number l.entry) ∷ pos l.centre ∷ pos l.factor ∷ []

-- the first n lanes of a placement
abbrev pub lanes_numbers : Placement → ℕ → List ℤ
lanes_numbers p zero = []
lanes_numbers p (suc n) = lanes_numbers p n ++ lane_numbers (lane_at p n)

-- a placement's lane set and its ten lanes
abbrev pub placement_numbers : Placement → List ℤ
placement_numbers p = pos p.set ∷ lanes_numbers p 10

-- the placements of a live kind's greatest and least value
abbrev pub placements_numbers : Traffic → List ℤ
placements_numbers t = placement_numbers t.greatest.placement ++ placement_numbers t.least.placement
