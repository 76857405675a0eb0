-- Rural bridges (edition 4): the load combinations of Appendix D as its tables print them, and the rows that they are.
use Rattle.std.specs.Prelude.{ℕ, zero, suc, ◌+◌, ◌-◌, ◌*◌, ◌/◌, List, [], ◌∷◌, ◌++◌, if◌then◌else◌}
use lib.{ListN.get_or, ListN.length, Dec.eqb, Dec.leb}
use Rattle.model.specs.Job.{Term, service, ultimate, no_traffic, normal, Row}

-- a combination of loads: an effect by its number in the job (the traffic, LLxI, has 0), a sum, or so many hundredths of a combination
infixl 6 ◌and◌
infixr 7 ◌hundredths◌
pub data Combination : Type 0 where
  load : ℕ → Combination
  ◌and◌ : Combination → Combination → Combination
  ◌hundredths◌ : ℕ → Combination → Combination

-- ---- the loads, by the manual's symbols; the effects have their numbers in the job

abbrev pub LLxI : Combination  -- the traffic, the live load times impact: the normal live kind with its dynamic factor
LLxI = load 0

abbrev pub DL : Combination  -- dead load
DL = load 1

abbrev pub EP : Combination  -- earth pressure
EP = load 2

abbrev pub OW : Combination  -- ordinary water flow and buoyancy
OW = load 3

abbrev pub SG : Combination  -- shrinkage and creep
SG = load 4

abbrev pub ST : Combination  -- settlement
ST = load 5

abbrev pub TP : Combination  -- temperature
TP = load 6

abbrev pub HE : Combination  -- horizontal effects of traffic
HE = load 7

abbrev pub WD : Combination  -- wind
WD = load 8

abbrev pub FW : Combination  -- flood water flow and buoyancy
FW = load 9

abbrev pub EQ : Combination  -- earthquake
EQ = load 10

abbrev pub CN : Combination  -- construction
CN = load 11

-- ---- the tables, a line a group, factors in hundredths; group 4 is not applicable

-- table D1: the serviceability limit state
abbrev pub table_d1 : List Combination
table_d1 =
    (DL and EP and OW and SG and ST and LLxI)  -- 1A
    ∷ (DL and EP and OW and SG and ST and TP)  -- 1B
    ∷ (DL and EP and OW and SG and ST and LLxI and HE and TP)  -- 2A
    ∷ (DL and EP and OW and SG and ST and LLxI and HE and WD)  -- 2B
    ∷ (DL and EP and FW and SG and ST and LLxI and HE)  -- 2C
    ∷ (DL and EP and OW and SG and ST and EQ and 33 hundredths TP)  -- 3A
    ∷ (DL and EP and FW and SG and ST and WD)  -- 3B
    ∷ (DL and EP and OW and SG and 33 hundredths WD and CN)  -- 5A
    ∷ (DL and EP and OW and SG and 33 hundredths TP and CN)  -- 5B
    ∷ (DL and EP and OW and SG and 33 hundredths EQ and CN)  -- 5C
    ∷ []

-- table D2: the ultimate limit state
abbrev pub table_d2 : (k : ℕ) → List Combination
table_d2 k =
    (110 hundredths (DL and 135 hundredths EP and OW and SG and ST and 167 hundredths LLxI))  -- 1A
    ∷ (110 hundredths (DL and 135 hundredths EP and OW and SG and ST and 125 hundredths TP))  -- 1B
    ∷ (120 hundredths (DL and EP and OW and SG and ST and LLxI and HE and TP))  -- 2A
    ∷ (120 hundredths (DL and EP and OW and SG and ST and LLxI and HE) and WD)  -- 2B
    ∷ (120 hundredths (DL and EP and SG and ST and LLxI and HE) and FW)  -- 2C
    ∷ (100 hundredths (k hundredths DL and 125 hundredths (EP and OW) and SG and ST and EQ and 33 hundredths TP))  -- 3A
    ∷ (100 hundredths (DL and 125 hundredths EP and FW and SG and ST and WD))  -- 3B
    ∷ (120 hundredths (DL and EP and OW and SG and 110 hundredths CN) and 33 hundredths WD)  -- 5A
    ∷ (120 hundredths (DL and EP and OW and SG and 33 hundredths TP and 110 hundredths CN))  -- 5B
    ∷ (120 hundredths (DL and EP and OW and SG and 33 hundredths EQ and 110 hundredths CN))  -- 5C
    ∷ []

-- k of an alternative, in hundredths: 1.3 or 0.8, to allow for vertical acceleration
abbrev pub k_of : (alternative : ℕ) → ℕ
k_of zero = 130
k_of (suc a) = 80

-- ---- the rows

-- n / d in thousandths, to the nearest, a half up
abbrev pub nearest : (n d : ℕ) → ℕ
nearest n d = (2 * (1000 * n) + d) / (2 * d)

-- a load's factor in thousandths where the combination counts n / d times, multiplied out; 0 where it has not the load
abbrev pub multiplied : (n d : ℕ) → Combination → (number : ℕ) → ℕ
multiplied n d (load e) number = if eqb e number then nearest n d else 0
multiplied n d (x and y) number = multiplied n d x number + multiplied n d y number
multiplied n d (f hundredths x) number = multiplied (n * f) (d * 100) x number

-- a load's factor in a group
abbrev pub thousandths : Combination → (number : ℕ) → ℕ
thousandths = multiplied 1 1

-- the terms of n effects from effect e on: those that have a factor
abbrev pub terms_by : (factor : ℕ → ℕ) → (e n : ℕ) → List Term
terms_by factor e zero = []
terms_by factor e (suc n) =
    if eqb (factor e) 0 then terms_by factor (suc e) n else (record { effect = e; factor = factor e } ∷ terms_by factor (suc e) n)

-- service groups first, then ultimate ones
abbrev pub groups : (k : ℕ) → List Combination
groups k = table_d1 ++ table_d2 k

-- the group of row r, rows counting from 1
abbrev pub group : (r alternative : ℕ) → Combination
group r a = get_or (groups (k_of a)) (r - 1) (load 0)

-- how many rows there are
abbrev pub group_rows : ℕ
group_rows = length (groups (k_of 0))

-- the row with k: ultimate 3A, the sixth line of table D2, so row 16
abbrev pub row_with_k : ℕ
row_with_k = length table_d1 + 6

-- row r
abbrev pub group_row : ℕ → Row
group_row r = record {
  limit = if leb r (length table_d1) then service else ultimate;
  live = if eqb (thousandths (group r 0) 0) 0 then no_traffic else normal;
  factor = thousandths (group r 0) 0;
  others = if eqb r row_with_k then 1 else 0;
  chain = λ a. terms_by (thousandths (group r a)) 1 11;
  k = λ a. if eqb r row_with_k then 10 * k_of a else 0;
}
