-- "Records walked" (02): the sum over rows of their chains' lengths, in records. A tail that rows share counts for each of them.
use Rattle.std.specs.Prelude.{ℕ, zero, suc, ◌+◌, length}
use Rattle.model.specs.Job.{Row, Profile, highway, rural, Job}

-- the length of a row's chain, in records: a row that the job lists has one alternative, the 0th; a built-in row has no records to walk
abbrev pub chain_length : Profile → Row → ℕ
chain_length highway row = length (row.chain 0)
chain_length rural row = 0

-- the records walked of rows 1 .. r
unfoldable pub walked_to : Profile → (row : ℕ → Row) → ℕ → ℕ
walked_to profile row zero = 0
walked_to profile row (suc r) = walked_to profile row r + chain_length profile (row (suc r))

-- the records walked of a job
abbrev pub records_walked : Job → ℕ
records_walked job = walked_to job.profile job.row job.rows
