use native.Mathlib.Omega.{arith}
use Rattle.exact.proofs.Filled.{filled_more}
use Rattle.centres.proofs.LaneLimits.{decks_few, all_lanes}
use Rattle.centres.proofs.spans.Goals as goal

pub loop-i-preserved : goal.loop-i-preserved
loop-i-preserved c = let few = decks_few c.requires in filled_more c.span_of.result (omega arith) c.loop-i.invariant c.span_of.ensures

pub returns-clause-span_right : goal.returns-clause-span_right
returns-clause-span_right c = let f = c.loop-i.invariant in λ job of i h. f.each i (omega (arith, all_lanes c.requires of)) job of
