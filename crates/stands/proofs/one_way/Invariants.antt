use mathlib.Core.Path.{◌≡◌}
use mathlib.Core.List.{List}
use Prim.Native.Nat.{ℕ, ◌+◌, ◌-◌, ◌*◌, ◌≤◌}
use Rattle.exact.specs.Questions.{for_question}
use Rattle.exact.specs.declared.Question.{Question}
use Rattle.model.specs.Decode.{influence_line}
use Rattle.model.specs.declared.Axle.{Axle}
use Rattle.model.specs.declared.Way.{Way}
use Rattle.stands.specs.Runs.{SpacedRight, BestOf, at_place}
use Rattle.stands.proofs.one_way.Given as goal

abbrev pub invariant-loop-m : goal.invariant-loop-m
invariant-loop-m l =
    (l.m ≤ l.n + l.train.length) × (l.m-end ≡ l.n + l.train.length) × ((h : ℕ) (t : List Axle) (way : Way) → SpacedRight way h t l.train → (q : Question) → BestOf q (at_place l.mode q (influence_line l.line h l.n) t way) (2 * l.m) (for_question q l.best))

abbrev pub decreases-loop-m : goal.decreases-loop-m
decreases-loop-m l = l.n + l.train.length - l.m
