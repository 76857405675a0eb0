use Rattle.model.specs.Answers.{for_limit}
use Rattle.rows.specs.Governed.{traffic_of}
use Rattle.accepted.proofs.Fits.{sized, tables_found, state_found, walked_found}
use Rattle.accepted.proofs.limit_states.Goals as goal

pub section-requires : goal.section-requires
section-requires c = sized c.requires.0

pub section-requires-2 : goal.section-requires-2
section-requires-2 c = sized c.requires.0

pub section-requires-3 : goal.section-requires-3
section-requires-3 c = sized c.requires.0

pub invariant_of-tables : goal.invariant_of-tables
invariant_of-tables c = record { fit = tables_found c.requires.0 c.section.ensures c.section-2.ensures c.section-3.ensures }

pub returns : goal.returns
returns c =
    let ready = c.requires.0 in
    let effects = c.section.ensures in
    let rows = c.section-2.ensures in
    let records = c.section-3.ensures in record {
      state_found = λ limit. state_found ready effects rows records (traffic_of c.args.live) limit (for_limit limit c.states.result.states) (c.states.ensures.state_found limit);
      walked_value = walked_found ready effects rows records c.states.result.walked c.states.ensures.walked_value;
    }
