-- What the program prints of an answer, as ASCII bytes. An accepted job has four lines, a refused one has one; a newline ends each:
--   normal greatest V least V
--   overload greatest V least V
--   service greatest V row R least V row R, or: service none
--   ultimate likewise
--   refused NUMBER at PLACE
-- Numbers are decimal, with a minus where below 0 and no zeros in front.
use Rattle.std.specs.Prelude.{ℕ, List, ◌++◌, None, Some, Ok, Err}
use Rattle.decimal.specs.Decimal.{ascii, decimal, signed}
use Rattle.model.specs.declared.Governing.{Governing}
use Rattle.model.specs.declared.Refusal.{Refusal}
use Rattle.model.specs.declared.Account.{Account}
use Rattle.model.specs.Answers.{Traffic, State, Answer}

-- a line's greatest and least, after its name
abbrev pub report : List ℕ → List ℕ → List ℕ
report greatest least = (ascii " greatest " ++ greatest) ++ (ascii " least " ++ least) ++ ascii "\n"

-- a live kind's line, in N·U
abbrev pub traffic_line : List ℕ → Traffic → List ℕ
traffic_line name t = name ++ report (signed t.greatest.value) (signed t.least.value)

-- a value with its row, in thousandths of N·U
abbrev pub governing_text : Governing → List ℕ
governing_text g = signed g.value ++ (ascii " row " ++ decimal g.row)

-- a limit state's line
abbrev pub state_line : List ℕ → State → List ℕ
state_line name None = name ++ ascii " none\n"
state_line name (Some x) = name ++ report (governing_text x.greatest) (governing_text x.least)

-- the four lines of an accepted job
abbrev pub account_text : Account → List ℕ
account_text a =
    traffic_line (ascii "normal") a.normal ++ traffic_line (ascii "overload") a.overload
    ++ state_line (ascii "service") a.service ++ state_line (ascii "ultimate") a.ultimate

-- the line of a refused job
abbrev pub refusal_line : Refusal → List ℕ
refusal_line r = (ascii "refused " ++ decimal r.number) ++ (ascii " at " ++ decimal r.place) ++ ascii "\n"

-- an answer
abbrev pub answer_text : Answer → List ℕ
answer_text (Ok a) = account_text a
answer_text (Err r) = refusal_line r
