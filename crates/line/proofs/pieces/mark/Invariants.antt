use mathlib.Core.Path.{◌≡◌}
use Rattle.model.specs.Decode.{piece_at}
use Rattle.model.specs.Line.{patch_byte}
use Rattle.line.proofs.Marks.{marked}
use Rattle.line.proofs.pieces.mark.Given as goal

abbrev pub invariant-loop-i : goal.invariant-loop-i
invariant-loop-i l = l.byte-items ≡ marked (λ j. patch_byte (piece_at l.line j)) l.i l.initial.byte-items
