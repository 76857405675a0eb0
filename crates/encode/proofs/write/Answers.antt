use mathlib.Core.Path.{refl}
use native.Mathlib.Omega.{arith}
use borrow.Author.Rules.{rules}
use Rattle.numbers.proofs.Stores.{and_then}
use Rattle.numbers.proofs.Reading.{in_front}
use Rattle.encode.specs.Encoding.{account_numbers}
use Rattle.encode.proofs.Sizes.{account_count_lem}
use Rattle.encode.proofs.write.Goals as goal

pub returns : goal.returns
returns c =
    let values = and_then c.put_values.ensures c.put_values-2.ensures in
    let traffic = and_then (and_then values c.put_position.ensures) c.put_position-2.ensures in
    let placements = and_then (and_then traffic c.put_placements.ensures) c.put_placements-2.ensures in
    let states = and_then c.put_state.ensures c.put_state-2.ensures in
    let counts = and_then (and_then c.put_count.ensures c.put_count-2.ensures) c.put_count-3.ensures in
    let front = in_front {zs = account_numbers c.args.a} (and_then (and_then placements states) counts) refl (omega (arith, account_count_lem c.args.a)) c.requires.account_size_in_bounds (search rules) in
    record { out_after = front.0; read_back = front.1 }
