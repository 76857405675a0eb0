use mathlib.Core.Path.{refl}
use mathlib.Core.List.{[]}
use Rattle.headers.proofs.counts_misfit.Goals as goal

pub returns-in-First : goal.returns-in-First
returns-in-First c = rw c.in-First.is (c.listed_counts.ensures [] refl)

pub returns-in-Second : goal.returns-in-Second
returns-in-Second c = rw c.in-Second.is (c.newton_counts.ensures [] refl)
