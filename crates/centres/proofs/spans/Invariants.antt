use Rattle.exact.proofs.Filled.{FilledTo}
use Rattle.model.specs.Job.{Job}
use Rattle.model.specs.Lanes.{deck_of, number_on}
use Rattle.centres.specs.Spans.{SpanRight, no_span, DecksOf}
use Rattle.centres.proofs.spans.Given as goal

abbrev pub invariant-loop-i : goal.invariant-loop-i
invariant-loop-i l = FilledTo (λ k s. (job : Job) → DecksOf l.near l.far l.d.width l.d.second l.d.g job → SpanRight (deck_of job k) (number_on job k) s) 10 no_span l.i l.all
