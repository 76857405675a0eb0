use mathlib.Core.Bool.{Bool}
use lib.IntN.{ℤ}
use mathlib.Core.Path.{◌≡◌, sym, ◌∙◌, ap₂}
use native.Mathlib.Omega.{arith}
use mir.Syntax.{w64}
use Rattle.exact.proofs.Held.{got}
use Rattle.model.specs.Refusals.{crosses}
use Rattle.words.specs.Fields.{misfit}
use Rattle.ordinates.proofs.Pieces.{piece}
use Rattle.limits.proofs.Scans.{search_begins, search_goes_on, search_found, search_over}
use Rattle.ordinates.proofs.first_crossing.Goals as goal

-- the piece's test
tested : {t : Bool} {x y z w : ℤ} → t ≡ crosses x y → x ≡ z → y ≡ w → t ≡ crosses z w
tested e f g = e ∙ ap₂ crosses f g

pub returns-then-crosses : goal.returns-then-crosses
unfolding misfit
returns-then-crosses c =
    sym (search_found c.loop-i.invariant (omega arith) (piece 0 _ _ (sym (tested c.crosses.ensures (got w64 c.word.type_inv c.word.ensures).is (got w64 c.word-in-loop-i.type_inv c.word-in-loop-i.ensures).is) ∙ c.if-crosses.true)))

pub loop-i-preserved : goal.loop-i-preserved
loop-i-preserved c =
    search_goes_on c.loop-i.invariant (omega arith) (piece 0 _ _ (sym (tested c.crosses.ensures (got w64 c.word.type_inv c.word.ensures).is (got w64 c.word-in-loop-i.type_inv c.word-in-loop-i.ensures).is) ∙ c.if-crosses.false))

pub returns : goal.returns
unfolding misfit
returns c = sym (search_over c.loop-i.invariant (omega arith))

pub loop-i-init : goal.loop-i-init
loop-i-init c = search_begins _ _
