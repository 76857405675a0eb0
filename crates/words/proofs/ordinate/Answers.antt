use lib.Dec.{lit<}
use mir.Syntax.{w16, w32}
use Rattle.exact.proofs.Held.{ret, cast, cast! }
use borrow.Author.Rules.{rules}
use Rattle.words.proofs.ordinate.Goals as goal

pub overflow_cast-result : goal.overflow_cast-result
overflow_cast-result c = search (rules, cast! (ret w32 c.word32.type_inv c.word32.ensures c.requires.1) w16 (lit< tt))

pub returns : goal.returns
returns c = (cast (ret w32 c.word32.type_inv c.word32.ensures c.requires.1) w16 (lit< tt)).is
