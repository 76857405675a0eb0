use Prim.Native.Nat.{◌-◌, ◌*◌, ◌≤◌}
use lib.ListN.{length}
use Rattle.model.specs.Decode.{terms_from}
use Rattle.model.specs.Format.{bytes}
use Rattle.model.specs.declared.Part.TheVariants.{Records}
use Rattle.tables.proofs.Gathered.{Gathered}
use Rattle.tables.proofs.factors.Given as goal

abbrev pub invariant-loop : goal.invariant-loop
invariant-loop l =
    (l.counter ≤ l.left) × (bytes Records * l.c ≤ length l.records) × Gathered (terms_from l.records l.left l.first) (terms_from l.records (l.left - l.counter) l.c) l.found

abbrev pub decreases-loop : goal.decreases-loop
decreases-loop l = l.left - l.counter
