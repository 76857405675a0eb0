use lib.Dec.{lit<}
use mir.Syntax.{w64}
use Rattle.exact.specs.declared.Question.TheVariants.{Greatest, Least}
use Rattle.exact.proofs.Held.{known, told}
use Rattle.rows.proofs.state.laden_both.Goals as goal

pub laden-requires : goal.laden-requires
laden-requires c = let near = c.requires Greatest in (near.0, (told (known w64 near.1 (lit< tt))).1)

pub laden-requires-2 : goal.laden-requires-2
laden-requires-2 c = let near = c.requires Least in (near.0, (told (known w64 near.1 (lit< tt))).1)
