-- What an answer is made of, where its types are the library's or have a value for each question, sense or limit state.
use Rattle.std.specs.Prelude.{Option, Result}
use Rattle.exact.specs.declared.ByQuestion.{ByQuestion}
use Rattle.model.specs.Job.{Limit, service, ultimate}
use Rattle.model.specs.declared.{Sense.Sense, Sense.TheVariants.Raising, Sense.TheVariants.Lowering, BySense.BySense, ByLimit.ByLimit, Extreme.Extreme, Governing.Governing, Account.Account, Refusal.Refusal}

-- the greatest and the least of a live kind
abbrev pub Traffic : Type 0
Traffic = ByQuestion Extreme

-- a limit state's greatest and least; none where it has no row
abbrev pub State : Type 0
State = Option (ByQuestion Governing)

-- the account of an accepted job, or the refusal
abbrev pub Answer : Type 0
Answer = Result Account Refusal

-- a sense's value of the two
abbrev pub for_sense : {A : Type 0} → Sense → BySense A → A
for_sense Raising x = x.raising
for_sense Lowering x = x.lowering

-- a limit state's value of the two
abbrev pub for_limit : {A : Type 0} → Limit → ByLimit A → A
for_limit service x = x.service
for_limit ultimate x = x.ultimate
