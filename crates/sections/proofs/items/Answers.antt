use mathlib.Core.Path.{◌∙◌, sym, ap₂}
use Prim.Native.Nat.{◌+◌}
use native.Mathlib.Omega.{arith}
use Rattle.sections.proofs.Sizes.{across_is}
use Rattle.sections.proofs.items.Goals as goal

pub returns-in-SecondTransverse : goal.returns-in-SecondTransverse
returns-in-SecondTransverse c =
    let head = c.args.head in
    let m = c.spaces-in-SecondTransverse.ensures in
    let edge = c.far_edge.ensures in
    rw c.in-SecondTransverse.is (ap₂ ◌+◌ m.0 edge.0 ∙ sym (across_is head.second head.spacing c.requires.spaced), omega (arith, m.1, edge.1))
