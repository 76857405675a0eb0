use mir.Syntax.{w64}
use Rattle.exact.specs.declared.Question.TheVariants.{Greatest, Least}
use Rattle.exact.proofs.Extremes.{by_question}
use Rattle.exact.proofs.Held.{got, told}
use Rattle.model.specs.Format.{kilonewtons}
use Rattle.model.specs.Decode.{effect_at}
use Rattle.model.specs.RuralBridges.{group_row}
use Rattle.groups.specs.FactorLines.{line_row, line_alternative}
use Rattle.rows.proofs.Loaded.{laden_is}
use Rattle.rows.proofs.state.by_line.Goals as goal

pub line_loaded-requires : goal.line_loaded-requires
line_loaded-requires c = (c.requires.2, c.requires.3 Greatest)

pub line_loaded-requires-2 : goal.line_loaded-requires-2
line_loaded-requires-2 c = (c.requires.2, c.requires.3 Least)

pub laden_both-requires : goal.laden_both-requires
laden_both-requires c =
    let chain = c.of_group.ensures in
    let most = c.line_loaded in
    let least = c.line_loaded-2 in
    by_question _ ((chain Greatest).near, (told (got w64 most.type_inv most.ensures)).1) ((chain Least).near, (told (got w64 least.type_inv least.ensures)).1)

pub returns : goal.returns
returns c =
    let a = c.args in
    let chain = c.of_group.ensures in
    let best = c.laden_both.ensures in
    let most = c.line_loaded in
    let least = c.line_loaded-2 in
    by_question _
    (laden_is Greatest (effect_at kilonewtons a.effects.now) (group_row (line_row a.line)) a.live.greatest (line_alternative a.line) _ (chain Greatest) a.r a.k (best Greatest) (got w64 most.type_inv most.ensures).is)
    (laden_is Least (effect_at kilonewtons a.effects.now) (group_row (line_row a.line)) a.live.least (line_alternative a.line) _ (chain Least) a.r a.k (best Least) (got w64 least.type_inv least.ensures).is)
