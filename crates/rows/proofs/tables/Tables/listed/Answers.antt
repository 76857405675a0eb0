use mathlib.Core.Path.{refl, subst}
use Prim.Native.Nat.{ℕ}
use mir.Syntax.{w64}
use Rattle.exact.specs.Questions.{for_question}
use Rattle.exact.specs.declared.Question.{Question}
use Rattle.exact.specs.declared.Question.TheVariants.{Greatest, Least}
use Rattle.exact.proofs.Extremes.{by_question}
use Rattle.exact.proofs.Held.{got, told}
use Rattle.model.specs.Decode.{terms_from}
use Rattle.omissions.specs.Chained.{ChainRight}
use Rattle.rows.specs.InTables.{effect_in, listed_in}
use Rattle.rows.specs.Governed.{live_value}
use Rattle.rows.proofs.Loaded.{laden_is, one_alternative}
use Rattle.rows.proofs.tables.Tables.listed.Goals as goal

pub loaded-requires : goal.loaded-requires
loaded-requires c = let p = c.requires in (p.0, p.1, p.2 Greatest)

pub loaded-requires-2 : goal.loaded-requires-2
loaded-requires-2 c = let p = c.requires in (p.0, p.1, p.2 Least)

pub laden_both-requires : goal.laden_both-requires
laden_both-requires c =
    let chain = c.best-chain.ensures.chain_right in
    let most = c.loaded in
    let lowest = c.loaded-2 in
    by_question _ ((chain Greatest).near, (told (got w64 most.type_inv most.ensures)).1) ((chain Least).near, (told (got w64 lowest.type_inv lowest.ensures)).1)

pub returns-clause-best_value : goal.returns-clause-best_value
returns-clause-best_value c =
    let a = c.args in
    let t = a.self.now in
    let effect = effect_in t in
    let row = listed_in t in
    let chain : (q : Question) → ChainRight q effect ((row a.r).chain 0) (for_question q c.best-chain.result.best) = λ q. subst (λ (k : ℕ). ChainRight q effect (terms_from t.records.now t.head.records k) (for_question q c.best-chain.result.best)) c.item_word.ensures.0 (c.best-chain.ensures.chain_right q) in
    let best = c.laden_both.ensures in
    let greatest = c.loaded in
    let lowest = c.loaded-2 in
    let most = laden_is Greatest effect (row a.r) a.live.greatest 0 _ (chain Greatest) a.r 0 (best Greatest) (got w64 greatest.type_inv greatest.ensures).is in
    let least = laden_is Least effect (row a.r) a.live.least 0 _ (chain Least) a.r 0 (best Least) (got w64 lowest.type_inv lowest.ensures).is in
    by_question _
    (one_alternative Greatest effect row (live_value a.live.greatest) a.r _ refl most.0 most.1 most.2)
    (one_alternative Least effect row (live_value a.live.least) a.r _ refl least.0 least.1 least.2)
