use mathlib.Core.Path.{◌≡◌, refl, sym, ◌∙◌, subst}
use Prim.Native.Nat.{ℕ, ◌+◌, ◌*◌, ◌≤◌}
use native.Mathlib.Nat.{le_refl}
use native.Mathlib.Omega.{arith}
use lib.IntN.{ℤ, pos}
use Rattle.exact.specs.Bounds.{Within}
use Rattle.exact.specs.Questions.{for_question}
use Rattle.exact.specs.declared.Question.{Question}
use Rattle.exact.specs.declared.Question.TheVariants.{Greatest, Least}
use Rattle.magnitudes.specs.Magnitudes.{train_most}
use Rattle.model.specs.Decode.{influence_line}
use Rattle.stands.specs.Runs.{BestOf, at_place, run_sum}
use Rattle.stands.proofs.EndOrdinates.{run_near}
use Rattle.stands.proofs.Stations.{run_left, run_right, first_none, found_first, found_next}
use Rattle.stands.proofs.one_way.Goals as goal

-- no run yet
none : (q : Question) (f : ℕ → ℤ) → f 0 ≡ pos 0 → BestOf q f 0 (for_question q (record { greatest = record { value = pos 0; place = 0 }; least = record { value = pos 0; place = 0 } }))
none Greatest f e = found_first Greatest f e
none Least f e = found_first Least f e

pub loop-m-init : goal.loop-m-init
loop-m-init c =
    let a = c.args in
    (omega arith, refl, λ h t way right q. none q _ (first_none a.mode q a.line.now h a.n t way a.train.now right c.requires.1))

pub loop-m-preserved : goal.loop-m-preserved
loop-m-preserved c =
    let a = c.args in
    let m = c.loop-m.m in
    let l = c.loop-m in
    -- the sum of the run at an end is within reach
    let near : (q : Question) (end : ℕ) (v : ℤ) → end ≤ 1 → v ≡ run_sum a.mode q a.line.now a.n a.train.now m end a.train.now.count → Within train_most v =
    λ q end v few e. subst (Within train_most) (sym e) (run_near a.mode q a.line.now a.n a.train.now m c.requires.0 c.requires.1 end few a.train.now.count (le_refl _)) in
    let next : 2 * m + 2 ≡ 2 * (m + 1) = omega arith in (
      omega arith,
      refl,
      λ h t way right q.
          let f = at_place a.mode q (influence_line a.line.now h a.n) t way in
          let e = c.run-ends.ensures q in
          let left = for_question q c.run-ends.result.left in
          let end = for_question q c.run-ends.result.right in
          let first = found_next q f (2 * m) (2 * m + 1) (for_question q l.best) (for_question q c.bettered-best.result) left refl (near q 0 left (omega arith) e.0)
          (e.0 ∙ run_left a.mode q a.line.now h a.n t way a.train.now right c.requires.1 m) (c.bettered-best.ensures q) (l.invariant.2 h t way right q) in
          subst (λ (k : ℕ). BestOf q f k (for_question q c.bettered-best-in-loop-m.result)) next
          (found_next q f (2 * m + 1) (2 * m + 2) (for_question q c.bettered-best.result) (for_question q c.bettered-best-in-loop-m.result) end (omega arith) (near q 1 end (omega arith) e.1)
          (e.1 ∙ run_right a.mode q a.line.now h a.n t way a.train.now right c.requires.1 m) (c.bettered-best-in-loop-m.ensures q) first),
    )

pub returns : goal.returns
returns c h t way right q =
    let l = c.loop-m in
    let a = c.args in
    let e : l.m ≡ a.n + a.train.now.length = omega arith in
    subst (λ (k : ℕ). BestOf q (at_place a.mode q (influence_line a.line.now h a.n) t way) (2 * k) (for_question q l.best)) e (l.invariant.2 h t way right q)
