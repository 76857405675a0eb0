-- Records walked: chains worked out, a rural bridge's, and a bound by the longest chain.
use mathlib.Core.Path.{◌≡◌, refl}
use mathlib.Core.List.{List, [], ◌∷◌}
use Prim.Native.Nat.{ℕ, zero, suc, ◌+◌, ◌*◌, ◌≤◌}
use native.Mathlib.Numerals.{add-one}
use native.Mathlib.Omega.{arith}
use Rattle.words.specs.Words.{signed32, word_at}
use Rattle.model.specs.Job.{Row, Profile, highway, rural}
use Rattle.model.specs.Chains.{chain_from}
use Rattle.model.specs.Decode.{row_at}
use Rattle.model.specs.RecordsWalked.{chain_length, walked_to}

-- ---- chains worked out
-- words below 256 as bytes
abbrev section : List ℕ → List ℕ
section [] = []
section (w ∷ rest) = w ∷ 0 ∷ 0 ∷ 0 ∷ section rest

-- five records: 2 ends a chain and follows 3, which follows 4; 1 and 5 are on no row's chain
abbrev records : List ℕ
records = section (1 ∷ 100 ∷ 2 ∷ 2 ∷ 100 ∷ 0 ∷ 3 ∷ 0 ∷ 2 ∷ 1 ∷ 100 ∷ 3 ∷ 2 ∷ 100 ∷ 0 ∷ [])

-- four rows of both states, their first records 3, 4, none and 2
abbrev rows : List ℕ
rows = section (1 ∷ 0 ∷ 0 ∷ 3 ∷ 2 ∷ 0 ∷ 0 ∷ 4 ∷ 1 ∷ 0 ∷ 0 ∷ 0 ∷ 2 ∷ 0 ∷ 0 ∷ 2 ∷ [])

-- 2 records, 3, none and 1, three records in all
pub shared_tails : walked_to highway (row_at rows records 5) 4 ≡ 6
unfolding walked_to chain_from word_at signed32
shared_tails = refl

-- ---- row by row, as code counts
pub walked_start : (p : Profile) (row : ℕ → Row) → walked_to p row 0 ≡ 0
unfolding walked_to
walked_start p row = refl

pub walked_next : (p : Profile) (row : ℕ → Row) (n : ℕ) → walked_to p row (n + 1) ≡ walked_to p row n + chain_length p (row (n + 1))
unfolding walked_to
walked_next p row n = rw (add-one n) refl

-- ---- a rural bridge's built-in rows have no records
pub rural_none : (row : ℕ → Row) (n : ℕ) → walked_to rural row n ≡ 0
unfolding walked_to
rural_none row zero = refl
rural_none row (suc n) = omega (arith, rural_none row n)

-- ---- n rows, none of whose chains has more than m records
pub walked_most : (p : Profile) (row : ℕ → Row) (m n : ℕ) → ((r : ℕ) → 1 ≤ r → r ≤ n → chain_length p (row r) ≤ m) → walked_to p row n ≤ n * m
unfolding walked_to
walked_most p row m zero few = omega arith
walked_most p row m (suc n) few = omega (arith, walked_most p row m n (λ r h k. few r h (omega arith)), few (suc n) (omega arith) (omega arith))
