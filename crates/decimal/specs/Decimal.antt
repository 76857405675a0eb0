-- Numbers as decimal text in ASCII bytes, with a minus where below 0 and no zeros in front.
use Rattle.std.specs.Prelude.{ℕ, zero, suc, ◌+◌, ◌-◌, ◌*◌, ◌/◌, ◌%◌, List, [], ◌∷◌, ◌++◌, ltb, ℤ, pos, negsuc, if◌then◌else◌}
use Prim.Native.Char.{code}
use Prim.Native.String.{String}

-- the codes of a quoted text
abbrev pub ascii : String → List ℕ
ascii String.[] = []
ascii (String.◌∷◌ c s) = code c ∷ ascii s

-- a digit from 0 to 9
abbrev pub digit : ℕ → List ℕ
digit d = (code "0" + d) ∷ []

-- the last k digits of a number, or all where it has fewer: those of its tenth, then its last
unfoldable pub digits : ℕ → ℕ → List ℕ
digits zero n = []
digits (suc k) n = if ltb n 10 then digit n else digits k (n / 10) ++ digit (n % 10)

-- a number of up to 20 digits, as 64 bits have
abbrev pub decimal : ℕ → List ℕ
decimal n = digits 20 n

-- a number with its sign
unfoldable pub signed : ℤ → List ℕ
signed (pos n) = decimal n
signed (negsuc n) = ascii "-" ++ decimal (suc n)

-- the number that digits stand for, as a reader takes them, after those that stand for m
unfoldable pub number_from : ℕ → List ℕ → ℕ
number_from m [] = m
number_from m (c ∷ s) = number_from (10 * m + (c - code "0")) s
