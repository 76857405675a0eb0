use mathlib.Core.Path.{◌∙◌, ap}
use lib.ListN.{length}
use Rattle.tables.proofs.Joining.{chain_terms_lem}
use Rattle.tables.proofs.chain_count.Goals as goal

pub returns : goal.returns
returns c =
    let a = c.args in
    c.count.ensures ∙ ap length (chain_terms_lem a.records.now a.left a.n c.requires.2 c.factors.result a.first c.factors.ensures)
