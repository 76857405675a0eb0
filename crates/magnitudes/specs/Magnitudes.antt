-- How far from zero an accepted job's numbers can be, so that the arithmetic on them fits 64 signed bits.
use Rattle.std.specs.Prelude.{ℕ, ◌+◌, ◌*◌, ◌/◌, ltb, if◌then◌else◌}
use Rattle.exact.specs.Parts.{up}
use Rattle.model.specs.Line.{Kind, HN, HO, axle}

-- ---- the line

-- pieces: refusal 2
abbrev pub pieces_most : ℕ
pieces_most = 1000

-- an ordinate in U: refusal 4
abbrev pub ordinate_most : ℕ
ordinate_most = 5000

-- a piece's ordinate sum, and a pair of axles': two ordinates
abbrev pub pair_most : ℕ
pair_most = 10000

-- twice a line's area in dm·U: pieces of 1000 dm in all, an ordinate sum each
abbrev pub area_most : ℕ
area_most = 10000000

-- a kind's line effect in 75 N·U: 7 times twice an area, and a pair of its axles
abbrev pub line_most : Kind → ℕ
line_most kind = 7 * area_most + up (axle kind) * pair_most

-- HN's, 86,000,000
abbrev pub hn_line_most : ℕ
hn_line_most = line_most HN

-- HO's, 102,000,000
abbrev pub ho_line_most : ℕ
ho_line_most = line_most HO

-- an axle of a train in kN·U: 400 kN on an ordinate
abbrev pub axle_most : ℕ
axle_most = 400 * ordinate_most

-- a train: 12 axles
abbrev pub train_most : ℕ
train_most = 12 * axle_most

-- ---- lanes

-- a transverse ordinate times n g: 1000 thousandths, 5 lanes, 50 cm
abbrev pub transverse_most : ℕ
transverse_most = 250000

-- an HN element's effect: its line effect times a transverse ordinate
abbrev pub hn_lane_most : ℕ
hn_lane_most = 21500000000000

-- an HO element's effect
abbrev pub ho_lane_most : ℕ
ho_lane_most = 25500000000000

-- a most in each of n lanes: past five lanes there are two carriageways, whose line has a tenth of the ordinates and whose sums have up to 5 times the denominator, so half
abbrev pub among : (n most : ℕ) → ℕ
among n most = if ltb n 6 then most else most / 2

-- an HN element's effect at a factor of at most 20
abbrev pub factored_most : ℕ
factored_most = 20 * hn_lane_most

-- a live kind's sum: HO at 20, and four additional lanes at 68 together, or nine of half the most at 124; five lanes at their r, or ten, are less. 3 times the dynamic factor times it is 7.69e18
abbrev pub sum_most : ℕ
sum_most = 20 * ho_lane_most + 68 * hn_lane_most

-- a traffic value in N·U: 3 times 1300 times a sum over 800000 times 10 is below 9.62e11
abbrev pub traffic_most : ℕ
traffic_most = 1000000000000

-- ---- rows

-- an effect's value in N·U: refusal 6; the 1e9 kN·U of one in that unit are a hundredth of it
abbrev pub effect_most : ℕ
effect_most = 100000000000000

-- a share of a chain's value in thousandths of N·U: a factor of at most 3000 times an effect
abbrev pub share_most : ℕ
share_most = 3000 * effect_most

-- a chain's value: 16 shares, 4.8e18, for a chain names each of at most 16 effects at most once
abbrev pub chain_most : ℕ
chain_most = 16 * share_most

-- a row's traffic: a factor of at most 3000 times a traffic value; with a chain it is below 2^63
abbrev pub load_most : ℕ
load_most = 3000 * traffic_most
