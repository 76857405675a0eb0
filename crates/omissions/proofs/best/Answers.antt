use mathlib.Core.Path.{◌≡◌, ap, subst}
use mathlib.Core.List.{List}
use Prim.Native.Nat.{ℕ, ◌-◌, ◌*◌, ◌≤◌}
use native.Mathlib.Nat.{pos_of_ne-zero}
use native.Mathlib.Omega.{arith}
use lib.ListN.{length}
use Rattle.exact.specs.Questions.{for_question}
use Rattle.exact.specs.declared.Question.TheVariants.{Greatest}
use Rattle.model.specs.Chains.{record_effect, record_factor}
use Rattle.model.specs.Job.{Effect}
use Rattle.model.specs.Decode.{effect_at, terms_from}
use Rattle.model.specs.Format.{EffectUnit, effect_unit, bytes}
use Rattle.model.specs.declared.Part.TheVariants.{Records}
use Rattle.omissions.specs.ChainTables.{NamesTo, RecordsInTables}
use Rattle.omissions.specs.declared.Share.{Share}
use Rattle.omissions.specs.Chained.{term_of, term_at, ShareRight}
use Rattle.omissions.proofs.Terms.{terms_none, terms_spent}
use Rattle.omissions.proofs.Omissions.{terms_named, sofar_next, sofar_near, sofar_all}
use Rattle.omissions.proofs.best.Goals as goal

-- the chain's terms name effects that there are
named : (unit : EffectUnit) (effects s : List ℕ) (count first : ℕ) → RecordsInTables unit effects s → bytes Records * first ≤ length s → NamesTo 16 (terms_from s count first)
named unit effects s count first fits = terms_named 16 s (λ r h k. let f = fits r h k in (f.effect, f.most, f.next)) count first

-- a share of a record's effect and factor is its term's
own : (effect : ℕ → Effect) (s : List ℕ) (c e f : ℕ) (x : Share) → e ≡ record_effect s c → f ≡ record_factor s c → ShareRight effect (term_of e f) x → ShareRight effect (term_at s c) x
own effect s c e f x p q r = subst (λ (k : ℕ). ShareRight effect (term_of k (record_factor s c)) x) p (subst (λ (k : ℕ). ShareRight effect (term_of e k) x) q r)

pub returns-then-c-eq0-clause-chain_right : goal.returns-then-c-eq0-clause-chain_right
returns-then-c-eq0-clause-chain_right c q =
    let a = c.args in
    let l = c.loop-i in
    let p = c.requires in
    sofar_all q _ (l.invariant.0 q) p.3 (named (effect_unit a.edition) a.effects.now a.records.now a.count a.first p.1 p.2) (terms_none a.records.now (a.count - l.i) l.c c.if-c-eq0.true)

pub returns-then-c-eq0-clause-length_value : goal.returns-then-c-eq0-clause-length_value
returns-then-c-eq0-clause-length_value c =
    let l = c.loop-i in
    omega (arith, (l.invariant.0 Greatest).walked, ap length (terms_none c.args.records.now (c.args.count - l.i) l.c c.if-c-eq0.true))

pub extended_both-best-requires : goal.extended_both-best-requires
extended_both-best-requires c =
    let a = c.args in
    let p = c.requires in
    (c.share_of-own.ensures.near, λ q. sofar_near q _ (c.loop-i.invariant.0 q) p.3 (named (effect_unit a.edition) a.effects.now a.records.now a.count a.first p.1 p.2))

pub loop-i-preserved : goal.loop-i-preserved
loop-i-preserved c =
    let a = c.args in
    let l = c.loop-i in
    let effect = effect_at (effect_unit a.edition) a.effects.now in
    let here = c.if-c-eq0.false in
    let n = c.next-c.ensures.0 in
    let right = own effect a.records.now l.c _ _ c.share_of-own.result c.effect-e.ensures.0 c.factor.ensures.0 c.share_of-own.ensures in (
      λ q. rw (c.extended_both-best.ensures q) (sofar_next q effect a.records.now _ a.count l.i l.c c.next-c.result _ (for_question q l.best) here (omega arith) n right (l.invariant.0 q)),
      omega arith,
      rw n (c.requires.1 l.c (pos_of_ne-zero here) l.invariant.2).next,
    )

pub returns-clause-chain_right : goal.returns-clause-chain_right
returns-clause-chain_right c q =
    let a = c.args in
    let l = c.loop-i in
    let p = c.requires in
    sofar_all q _ (l.invariant.0 q) p.3 (named (effect_unit a.edition) a.effects.now a.records.now a.count a.first p.1 p.2) (terms_spent a.records.now (a.count - l.i) l.c (omega arith))

pub returns-clause-length_value : goal.returns-clause-length_value
returns-clause-length_value c =
    let l = c.loop-i in
    omega (arith, (l.invariant.0 Greatest).walked, ap length (terms_spent c.args.records.now (c.args.count - l.i) l.c (omega arith)))
