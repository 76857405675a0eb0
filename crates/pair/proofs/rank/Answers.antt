use mathlib.Core.Path.{◌∙◌, ap}
use native.Mathlib.Omega.{arith}
use lib.Dec.{lit<}
use mir.Syntax.{w32}
use Rattle.exact.proofs.Bounds.{within_pos}
use Rattle.exact.proofs.Held.{told, lit, arg, nat, ret, cast, times, plus}
use Rattle.pair.specs.PairPlaces.{turned}
use Rattle.pair.proofs.Places.{turn_near}
use Rattle.pair.proofs.rank.Goals as goal

pub returns : goal.returns
returns c =
    let ordinates = arg c.ranges.v c.requires.0 in
    let high = times (lit w32 65536 (lit< tt)) (cast ordinates w32 (lit< tt)) (lit< tt) in
    let place = nat w32 4095 c.requires.1 (omega (arith, c.requires.1)) in
    let low = ret w32 c.turn.type_inv (c.turn.ensures.0 ∙ ap (turned c.args.q) place.is) (turn_near c.args.q (within_pos 4095 c.requires.1)) in
    told (plus high low (lit< tt))
