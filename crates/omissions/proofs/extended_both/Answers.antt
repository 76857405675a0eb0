use Rattle.exact.specs.declared.Question.TheVariants.{Greatest, Least}
use Rattle.omissions.proofs.extended_both.Goals as goal

pub extended-requires : goal.extended-requires
extended-requires c = (c.requires.0, c.requires.1 Greatest)

pub extended-requires-2 : goal.extended-requires-2
extended-requires-2 c = (c.requires.0, c.requires.1 Least)
