use mathlib.Core.Path.{sym, subst}
use lib.Dec.{lit<}
use mir.Syntax.{w32, w64}
use Rattle.exact.proofs.Held.{got, cast}
use Rattle.ordinates.specs.Lines.{AllWithin}
use Rattle.ordinates.proofs.Pieces.{all_within}
use Rattle.ordinates.proofs.misfit.Goals as goal

pub returns-then-strays-eq0 : goal.returns-then-strays-eq0
returns-then-strays-eq0 c =
    sym (all_within c.args.head _ c.requires.1 (subst (AllWithin c.args.s.now) (cast (got w64 c.ordinate_limit.type_inv c.ordinate_limit.ensures) w32 (lit< tt)).is (c.strays.ensures c.if-strays-eq0.true)))
