-- What may be wrong with a row's chain, and the first row whose chain has it.
use Rattle.std.specs.Prelude.{ℕ, ◌+◌, Bool, not, List, Option}
use Rattle.words.specs.Fields.{misfit}
use Rattle.model.specs.Format.{header_of, section_of}
use Rattle.model.specs.Chains.{returns, names_twice}
use Rattle.model.specs.Decode.{first_record}
use Rattle.model.specs.Refusals.{row_tests}
use Rattle.model.specs.declared.Part.TheVariants.{Rows, Records}
use Rattle.job.specs.declared.defects.Defect.{Defect}
use Rattle.job.specs.declared.defects.Defect.TheVariants.{Return, Repeat}

-- the chain from a record, in a section of so many: it comes back to a record; it names an effect twice, a return or not
abbrev pub is_defective : Defect → List ℕ → (count : ℕ) → ℕ → Bool
is_defective Return = returns
is_defective Repeat = names_twice

-- row i's chain, i from 0, is without it
abbrev pub chain_passes : Defect → List ℕ → ℕ → Bool
chain_passes defect b i = not (is_defective defect (section_of b Records) (header_of b).records (first_record (section_of b Rows) (i + 1)))

-- the first word of the first row whose chain has it, from the first row's on
abbrev pub first_defective : Defect → List ℕ → Option ℕ
first_defective defect b = misfit (row_tests (header_of b).rows (chain_passes defect b)) (section_of b Rows)
