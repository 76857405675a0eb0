use mathlib.Core.Path.{◌≡◌, refl}
use mathlib.Core.Bool.{Bool, true, false}
use mir.Syntax.{w64}
use mir.Val.{SFits, bool_byte}
use borrow.Author.Rules.{rules}
use Rattle.numbers.proofs.Stores.{and_then, natural, signed}
use Rattle.encode.specs.Encoding.{flag_number}
use Rattle.encode.proofs.put_governing.Goals as goal

flag : (b : Bool) → bool_byte b ≡ flag_number b
flag false = refl
flag true = refl

pub returns : goal.returns
returns c =
    let g = c.args.g in
    let f : SFits w64 g.value = search rules in
    let row = and_then (signed f c.put_signed.ensures) c.put_count.ensures in
    let omitted = and_then row c.put_count-2.ensures in
    let unladen = natural (rw (flag g.unladen) at c.from.ensures) c.put_count-3.ensures in
    and_then (and_then omitted unladen) c.put_count-4.ensures
