use mathlib.Core.Path.{sym, ◌∙◌, ap}
use native.Mathlib.Omega.{arith}
use lib.Dec.{lit<}
use mir.Syntax.{w64}
use Rattle.exact.proofs.Held.{got, lit, eq_yes}
use Rattle.sections.proofs.Tests.{is_failed}
use Rattle.model.specs.Refusals.{as_result}
use Rattle.job.proofs.Rulings.{short_refused, rural_refused, highway_only}
use Rattle.job.proofs.refusals.highway_verdict.Goals.{then-s-via-then-s, then-s-via-else-s+then-word-eq-RURAL_EDITION}
use Rattle.job.proofs.refusals.highway_verdict.Goals as goal

pub returns-then-s : goal.returns-then-s
returns-then-s c =
    sym (ap as_result (elim c.then-s.branch [
      | then-s-via-then-s w ↦ short_refused c.args.s.now (omega (arith, w.if-s.true))
      | then-s-via-else-s+then-word-eq-RURAL_EDITION w ↦ rural_refused c.args.s.now (eq_yes (got w64 w.word.type_inv w.word.ensures) (lit w64 4 (lit< tt)) w.if-word-eq-RURAL_EDITION.true)
    ]))

pub returns : goal.returns
returns c = c.verdict.ensures ∙ ap as_result (highway_only c.args.s.now (is_failed 4 c.word.ensures.0 c.if-word-eq-RURAL_EDITION.false))
