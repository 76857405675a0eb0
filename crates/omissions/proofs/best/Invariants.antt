use Prim.Native.Nat.{◌-◌, ◌*◌, ◌≤◌}
use lib.ListN.{length}
use Rattle.exact.specs.Questions.{for_question}
use Rattle.exact.specs.declared.Question.{Question}
use Rattle.model.specs.Decode.{effect_at, terms_from}
use Rattle.model.specs.Format.{effect_unit, bytes}
use Rattle.model.specs.declared.Part.TheVariants.{Records}
use Rattle.omissions.proofs.Omissions.{Sofar}
use Rattle.omissions.proofs.best.Given as goal

abbrev pub invariant-loop-i : goal.invariant-loop-i
invariant-loop-i l =
    ((q : Question) → Sofar q (effect_at (effect_unit l.edition) l.effects) (terms_from l.records l.count l.first) (terms_from l.records (l.count - l.i) l.c) l.i (for_question q l.best))
    × (l.i ≤ l.count) × (bytes Records * l.c ≤ length l.records)

abbrev pub decreases-loop-i : goal.decreases-loop-i
decreases-loop-i l = l.count - l.i
