use Rattle.sets.proofs.Rural.{none_right, idle_right}
use Rattle.sets.proofs.no_lane.Goals as goal

pub returns-clause-loading_right : goal.returns-clause-loading_right
returns-clause-loading_right c = none_right

pub returns-clause-loading_right_2 : goal.returns-clause-loading_right_2
returns-clause-loading_right_2 c = idle_right
