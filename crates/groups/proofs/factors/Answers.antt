use Rattle.exact.specs.Ranges.{list_of}
use Rattle.exact.proofs.Ranges.{get_or_list_of}
use Rattle.groups.specs.FactorLines.{line_factor}
use Rattle.groups.proofs.factors.Goals as goal

pub returns : goal.returns
unfolding line_factor
returns c = get_or_list_of 21 (λ line. list_of 12 (line_factor line)) c.args.line _ c.requires
