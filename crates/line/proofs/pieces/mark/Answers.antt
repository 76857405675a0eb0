use mathlib.Core.Path.{◌≡◌, ◌∙◌, ap}
use mathlib.Core.List.{List, ◌++◌}
use Prim.Native.Nat.{ℕ}
use native.Mathlib.Omega.{arith}
use lib.ListN.{length, set, take, drop}
use Rattle.std.proofs.lemmas.List.{length-take-le}
use Rattle.exact.specs.Ranges.{list_of}
use Rattle.model.specs.Decode.{piece_at}
use Rattle.model.specs.Line.{patch_byte, patch_bytes}
use Rattle.line.proofs.Marks.{mark_step, mark_all}
use Rattle.line.proofs.pieces.mark.Goals as goal

pub loop-i-preserved : goal.loop-i-preserved
loop-i-preserved c =
    let l = c.loop-i in
    let byte = c.patch_byte.result in
    ap (λ (p : List ℕ). set p l.i byte) l.invariant ∙ mark_step (λ j. patch_byte (piece_at c.args.line.now j)) l.i (take c.args.n c.args.patch.now) byte c.loop-i-test.true c.patch_byte.ensures

pub returns : goal.returns
unfolding patch_bytes
returns c h =
    let l = c.loop-i in
    let a = c.args in
    let f : ℕ → ℕ = λ j. patch_byte (piece_at a.line.now j) in
    let own : length (take a.n a.patch.now) ≡ a.n = length-take-le a.n a.patch.now c.requires.n_in_bounds in
    let all : l.i ≡ length (take a.n a.patch.now) = omega arith in
    ap (λ (p : List ℕ). p ++ drop a.n a.patch.now) (l.invariant ∙ mark_all f l.i (take a.n a.patch.now) all ∙ ap (λ (k : ℕ). list_of k f) (all ∙ own))
