-- A report as numbers.
use Rattle.std.specs.Prelude.{List, [], ◌∷◌, ◌++◌, ℤ, pos}
use Rattle.model.specs.{Numbers.side_number, Numbers.way_number, declared.TrainExtreme.TrainExtreme, declared.Rating.Rating}

-- a stand: way round, side, the leftmost axle's station
abbrev pub stand_numbers : TrainExtreme → List ℤ
stand_numbers x = pos (way_number x.way) ∷ pos (side_number x.side) ∷ x.station ∷ []

-- the numbers of a report: greatest, least and their difference in kN·U, then the stand of greatest and the stand of least
abbrev pub report_numbers : Rating → List ℤ
report_numbers r = r.greatest.value ∷ r.least.value ∷ r.difference ∷ stand_numbers r.greatest ++ stand_numbers r.least
