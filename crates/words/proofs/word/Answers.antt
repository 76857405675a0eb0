use mathlib.Core.Path.{◌∙◌}
use lib.Dec.{lit<}
use mir.Syntax.{w32, w64}
use Rattle.exact.proofs.Held.{any, ok_fits, told, cast!, cast}
use Rattle.words.proofs.word.Goals as goal

pub overflow_cast-result : goal.overflow_cast-result
overflow_cast-result c = cast! (any (ok_fits w32 c.word32.result c.word32.type_inv)) w64 (lit< tt)

pub returns : goal.returns
returns c =
    let h = cast (any (ok_fits w32 c.word32.result c.word32.type_inv)) w64 (lit< tt) in
    (h.is ∙ c.word32.ensures, (told h).1)
