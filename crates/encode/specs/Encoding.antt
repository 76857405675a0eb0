-- An account as bytes: 157 numbers of eight bytes each, one after the other, in the order of `account_numbers`. Number k starts at byte 8 * k; include/hnho.h names each place.
-- Sides: 0 left, 1 right. Entries: 0 unloaded, 1 HN raising, 2 HN lowering, 3 HO raising, 4 HO lowering. A lane set has a bit a lane, the effects left out a bit an effect, the first the lowest.
use Rattle.std.specs.Prelude.{ℕ, ◌*◌, ◌<◌, ◌^◌, Bool, true, false, List, [], ◌∷◌, ◌++◌, ℤ, pos, replicate, None, Some}
use Rattle.numbers.specs.NumberBytes.{numbers_bytes}
use Rattle.placements.specs.PlacementNumbers.{placements_numbers}
use Rattle.model.specs.Numbers.{side_number, state_number}
use Rattle.model.specs.declared.Position.{Position}
use Rattle.model.specs.Answers.{Traffic, State}
use Rattle.model.specs.declared.Governing.{Governing}
use Rattle.model.specs.declared.Account.{Account}

-- the number of this layout, as a host asks for it
abbrev pub layout : ℕ
layout = 1

-- how many numbers an account has
abbrev pub account_count : ℕ
account_count = 157

-- how many bytes
abbrev pub account_size : ℕ
account_size = 8 * account_count

-- a live kind's greatest and least value, in N·U
abbrev pub value_numbers : Traffic → List ℤ
value_numbers t = t.greatest.value ∷ t.least.value ∷ []

-- a station and its side
abbrev pub position_numbers : Position → List ℤ
position_numbers p = p.station ∷ pos (side_number p.side) ∷ []

-- the four traffic values, the raising and the lowering position
abbrev pub traffic_numbers : Account → List ℤ
traffic_numbers a = value_numbers a.normal ++ value_numbers a.overload ++ position_numbers a.raising ++ position_numbers a.lowering

-- 1 for true
abbrev pub flag_number : Bool → ℕ
flag_number false = 0
flag_number true = 1

-- a limit state's value in thousandths of N·U, its row, the effects left out, whether the traffic is, and k in thousandths
abbrev pub governing_numbers : Governing → List ℤ
governing_numbers g = g.value ∷ pos g.row ∷ pos g.omitted ∷ pos (flag_number g.unladen) ∷ pos g.k ∷ []

-- whether a limit state is reported, its greatest and its least; zeros for none
abbrev pub limit_numbers : State → List ℤ
limit_numbers None = pos (state_number None) ∷ replicate 10 (pos 0)
limit_numbers (Some x) = pos (state_number (Some x)) ∷ governing_numbers x.greatest ++ governing_numbers x.least

-- the lanes of the carriageway and of a second one; the records walked
abbrev pub count_numbers : Account → List ℤ
count_numbers a = pos a.first ∷ pos a.second ∷ pos a.walked ∷ []

-- the numbers of an account; those of its placements are in placements/specs/PlacementNumbers.antt
abbrev pub account_numbers : Account → List ℤ
account_numbers a =
    traffic_numbers a ++ placements_numbers a.normal ++ placements_numbers a.overload ++ (limit_numbers a.service ++ limit_numbers a.ultimate) ++ count_numbers a

-- the bytes of an account
abbrev pub account_bytes : Account → List ℕ
account_bytes a = numbers_bytes (account_numbers a)

-- ---- what putting an account's bytes asks for

-- a limit state's rows are read back as they are by a reader of signed numbers
abbrev pub RowsFit : State → Type 0
RowsFit None = Unit {0}
RowsFit (Some x) = (x.greatest.row < 2 ^ 63) × (x.least.row < 2 ^ 63)

-- both states' rows, the numbers of lanes and the records walked are read back as they are
pub record CountsFit (a : Account) : Type 0 where
  pub service : RowsFit a.service
  pub ultimate : RowsFit a.ultimate
  pub first : a.first < 2 ^ 63
  pub second : a.second < 2 ^ 63
  pub walked : a.walked < 2 ^ 63
