use mathlib.Core.Path.{◌≡◌, ◌∙◌, ap, subst}
use mathlib.Core.List.{List}
use Prim.Native.Nat.{ℕ, ◌≤◌, ◌<◌}
use native.Mathlib.Omega.{arith}
use lib.ListN.{get_or}
use Rattle.exact.specs.Ranges.{list_of}
use Rattle.exact.proofs.Ranges.{get_or_list_of}
use Rattle.model.specs.Format.{kilonewtons}
use Rattle.model.specs.Decode.{effect_at}
use Rattle.groups.specs.FactorLines.{line_factor}
use Rattle.groups.proofs.Table.{factor_small}
use Rattle.omissions.specs.Chained.{term_of, ShareRight}
use Rattle.omissions.proofs.Groups.{group_more, group_near, group_all}
use Rattle.omissions.proofs.of_group.Goals as goal

-- the line's factor of an effect
factor : (line e : ℕ) (factors : List ℕ) → factors ≡ list_of 12 (line_factor line) → e < 12 → get_or factors e 0 ≡ line_factor line e
factor line e factors p h = ap (λ (xs : List ℕ). get_or xs e 0) p ∙ get_or_list_of 12 (line_factor line) e 0 h

-- which is small, as each is
small : {line e : ℕ} {factors : List ℕ} → factors ≡ list_of 12 (line_factor line) → line < 21 → e < 12 → get_or factors e 0 ≤ 3000
small {line} {e} {factors} p h k = rw (factor line e factors p k) (factor_small line e h k)

pub share_of-own-requires : goal.share_of-own-requires
share_of-own-requires c =
    let p = c.requires in
    let long = p.1 in
    (p.0, omega arith, omega arith, omega arith, small c.factors-factors.ensures p.2 (omega arith))

pub extended_both-best-requires : goal.extended_both-best-requires
extended_both-best-requires c = (c.share_of-own.ensures.near, λ q. group_near q _ (c.loop-e.invariant q))

pub loop-e-preserved : goal.loop-e-preserved
loop-e-preserved c q =
    let e = c.loop-e.e in
    let line = c.args.line in
    let effect = effect_at kilonewtons c.args.effects.now in
    let own = subst (λ (k : ℕ). ShareRight effect (term_of e k) c.share_of-own.result) (factor line e _ c.factors-factors.ensures (omega arith)) c.share_of-own.ensures in
    rw (c.extended_both-best.ensures q) (group_more q effect (line_factor line) e _ _ (omega arith) own (c.loop-e.invariant q))

pub returns : goal.returns
unfolding line_factor
returns c q = let all : c.loop-e.e ≡ 12 = omega arith in group_all q (effect_at kilonewtons _) (c.loop-e.invariant q) all
