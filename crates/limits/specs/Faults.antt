-- The parts that the search for a fault covers.
use Rattle.model.specs.declared.Part.{Part}
use Rattle.model.specs.declared.Part.TheVariants.{Head, Line, Transverse, SecondTransverse, Effects, Rows, Records}

-- a part that follows the header
abbrev pub AfterHeader : Part → Type 0
AfterHeader Head = ⊥
AfterHeader Line = Unit {0}
AfterHeader Transverse = Unit {0}
AfterHeader SecondTransverse = Unit {0}
AfterHeader Effects = Unit {0}
AfterHeader Rows = Unit {0}
AfterHeader Records = Unit {0}
