use native.Mathlib.Omega.{arith}
use Rattle.sections.proofs.Sizes.{few_words}
use Rattle.job.proofs.refusals.in_job.Goals as goal

pub overflow_cast-result : goal.overflow_cast-result
overflow_cast-result c =
    omega (arith, c.start.ensures.1, few_words c.args.head c.args.part c.requires.0 (c.requires.1 _ c.in_ok-place.was))
