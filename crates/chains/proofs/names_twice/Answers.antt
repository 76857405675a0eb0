use mathlib.Core.Path.{◌≡◌, sym}
use mathlib.Core.List.{List}
use Prim.Native.Nat.{ℕ, ◌*◌, ◌≤◌}
use native.Mathlib.Omega.{arith}
use native.Mathlib.Nat.{pos_of_ne-zero}
use lib.ListN.{length}
use Rattle.model.specs.Format.{bytes}
use Rattle.model.specs.declared.Part.TheVariants.{Records}
use Rattle.model.specs.Chains.{record_effect}
use Rattle.chains.specs.Linked.{EffectsTo}
use Rattle.chains.proofs.Walks.{stays, walked_none, walked_all, walked_past, walked_twice, walked_on}
use Rattle.chains.proofs.names_twice.Goals as goal

-- the effect read is at most 16
few : (s : List ℕ) {at e : ℕ} → EffectsTo 16 s → ¬ (at ≡ 0) → bytes Records * at ≤ length s → e ≡ record_effect s at → e ≤ 16
few s {at} f on inside read = rw read (f at (pos_of_ne-zero on) inside)

pub loop-init : goal.loop-init
loop-init c = (omega arith, walked_none _ _, c.requires.2)

pub returns-then-at-eq0 : goal.returns-then-at-eq0
returns-then-at-eq0 c = sym (walked_all c.loop.invariant.1 _ c.if-at-eq0.true)

pub returns-then-seen-e : goal.returns-then-seen-e
returns-then-seen-e c =
    let on = c.if-at-eq0.false in
    let read = c.effect-e.ensures.0 in
    sym (walked_twice c.loop.invariant.1 on read (few c.args.records.now c.requires.1 on c.loop.invariant.2 read) c.loop.invariant.0 c.if-seen-e.true)

pub loop-preserved : goal.loop-preserved
loop-preserved c =
    let on = c.if-at-eq0.false in
    let read = c.effect-e.ensures.0 in (
      omega arith,
      walked_on c.loop.invariant.1 on read (few c.args.records.now c.requires.1 on c.loop.invariant.2 read) c.if-seen-e.false c.next-at.ensures.0,
      rw c.next-at.ensures.0 (c.requires.0 c.loop.at (pos_of_ne-zero on) c.loop.invariant.2),
    )

pub returns : goal.returns
returns c =
    let p = c.requires in
    walked_past c.loop.invariant.1 (stays p.0 p.2 p.3) (omega arith)
