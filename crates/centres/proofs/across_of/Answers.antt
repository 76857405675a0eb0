use Rattle.std.specs.Prelude.{if◌then◌else◌}
use mathlib.Core.Path.{◌≡◌, ◌∙◌}
use mathlib.Core.List.{List}
use Prim.Native.Nat.{ℕ, ◌<◌}
use native.Mathlib.Nat.{max_comm}
use lib.Dec.{eqb}
use Rattle.model.specs.Lanes.{lane_count}
use Rattle.centres.specs.Transverse.{TransverseFits}
use Rattle.centres.specs.Spans.{DecksFit}
use Rattle.centres.proofs.LaneLimits.{across_fits, spanned}
use Rattle.centres.proofs.across_of.Goals as goal

-- the carriageways as they are counted
counted : {near far : List ℕ} {w n v m g : ℕ} → TransverseFits near w g × ((0 < v) → TransverseFits far v g) → n ≡ lane_count w → m ≡ (if eqb v 0 then 0 else lane_count v) →
    DecksFit near far (record { width = w; lanes = n; second = v; beyond = m; g = g })
counted fits lanes beyond = record { first = fits.0; lanes = lanes; second = fits.1; beyond = beyond }

pub invariant_of-result : goal.invariant_of-result
invariant_of-result c =
    let fit = counted c.requires c.lane_count-n.ensures.0 c.lanes_on-m.ensures.0 in
    record { fits = across_fits fit c.spans-spans.result c.spans-spans.ensures.span_right (c.max.ensures ∙ max_comm _ 1) }

pub returns : goal.returns
returns c =
    let fit = counted c.requires c.lane_count-n.ensures.0 c.lanes_on-m.ensures.0 in
    spanned fit c.spans-spans.result c.spans-spans.ensures.span_right (c.max.ensures ∙ max_comm _ 1) _
