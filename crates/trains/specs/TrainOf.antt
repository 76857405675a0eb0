-- The train that was gathered.
use Rattle.std.specs.Prelude.{List, leb, take, replicate, if◌then◌else◌}
use Rattle.model.specs.declared.Axle.{Axle}
use Rattle.axles.specs.declared.Gathered.{Gathered}

-- its axles; past twelve their number alone is known
unfoldable pub train_of : Gathered → List Axle
train_of g = if leb g.count 12 then take g.count g.axles else replicate g.count (record { load = 0; at = 0 })
