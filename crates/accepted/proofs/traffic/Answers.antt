use Rattle.model.specs.Job.{InfluenceLine}
use Rattle.model.specs.declared.BySense.{BySense}
use Rattle.model.specs.declared.Sense.TheVariants.{Raising, Lowering}
use Rattle.line.specs.Sought.{SoughtNear, SensesRight}
use Rattle.line.specs.declared.sought.Sought.{Sought}
use Rattle.accepted.proofs.traffic.Goals as goal

-- what both senses seek is near enough, for either kind
near : {line : InfluenceLine} {senses : BySense Sought} → SensesRight line senses → SoughtNear senses.raising × SoughtNear senses.lowering
near right = ((right Raising).near, (right Lowering).near)

pub effects-hn-requires : goal.effects-hn-requires
effects-hn-requires c = near c.requires.sought_right

pub effects-ho-requires : goal.effects-ho-requires
effects-ho-requires c = near c.requires.sought_right
