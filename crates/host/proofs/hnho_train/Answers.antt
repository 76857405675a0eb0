use mathlib.Core.Path.{subst}
use Rattle.axles.specs.declared.Gathered.{Gathered}
use Rattle.trains.specs.Rated.{Rated}
use Rattle.trains.specs.TrainOf.{train_of}
use Rattle.trains.proofs.Given.{given_rated}
use Rattle.host.proofs.hnho_train.Goals as goal

-- what is rated of the train that was gathered is rated of the train given
pub returns : goal.returns
returns c =
    let a = c.args in
    given_rated a.h a.pieces a.mode a.line.now a.train.now
    (subst (λ (g : Gathered). Rated (record { h = a.h; pieces = a.pieces; section = a.line.now; train = train_of g; mode = a.mode }) a.report.now c.rate.result c.rate.new.report) c.gather-g.ensures c.rate.ensures)
