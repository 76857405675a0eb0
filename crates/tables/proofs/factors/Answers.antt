use mathlib.Core.Path.{◌≡◌, ap}
use Prim.Native.Nat.{ℕ, ◌-◌}
use native.Mathlib.Nat.{pos_of_ne-zero}
use native.Mathlib.Omega.{arith}
use Rattle.model.specs.Decode.{terms_from}
use Rattle.omissions.proofs.Terms.{terms_none, terms_spent}
use Rattle.tables.proofs.Gathered.{none_gathered, gathered_on, all_gathered}
use Rattle.tables.proofs.factors.Goals as goal

pub loop-init : goal.loop-init
loop-init c =
    let a = c.args in
    let all : a.left - 0 ≡ a.left = omega arith in
    let chain = c.requires.1 in
    (omega arith, chain.inside, none_gathered (ap (λ (k : ℕ). terms_from a.records.now k a.first) all) chain.distinct)

pub returns-then-c-eq0 : goal.returns-then-c-eq0
returns-then-c-eq0 c =
    let l = c.loop in
    all_gathered (terms_none _ _ l.c c.if-c-eq0.true) l.invariant.2

pub loop-preserved : goal.loop-preserved
loop-preserved c =
    let l = c.loop in
    let s = c.args.records.now in
    let reads = c.requires.0 l.c (pos_of_ne-zero c.if-c-eq0.false) l.invariant.1 in (
      omega arith,
      rw c.next-c.ensures.0 reads.next,
      gathered_on s c.args.left l.counter l.c c.if-c-eq0.false (omega arith) c.effect-e.ensures.0 c.factor.ensures.0 c.next-c.ensures.0 (rw c.effect-e.ensures.0 reads.effect) (rw c.effect-e.ensures.0 reads.most) l.invariant.2,
    )

pub returns : goal.returns
returns c =
    let l = c.loop in
    all_gathered (terms_spent _ _ l.c (omega arith)) l.invariant.2
