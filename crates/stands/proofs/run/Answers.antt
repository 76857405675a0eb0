use mathlib.Core.Path.{◌≡◌, refl, sym, ◌∙◌, ap, subst}
use Prim.Native.Nat.{ℕ, ◌+◌, ◌≤◌, ◌<◌}
use native.Mathlib.Omega.{arith}
use lib.IntN.{ℤ, pos, ◌+ℤ◌, ◌*ℤ◌}
use lib.ListN.{length, take, length-take}
use lib.Seq.{get_or-take}
use Rattle.exact.specs.Bounds.{Within}
use Rattle.exact.specs.Questions.{for_question}
use Rattle.exact.specs.declared.Question.{Question}
use Rattle.exact.specs.declared.Question.TheVariants.{Greatest, Least}
use Rattle.magnitudes.specs.Magnitudes.{train_most}
use Rattle.model.specs.Trains.{axle_at, counted}
use Rattle.model.specs.declared.Axle.{Axle}
use Rattle.stands.specs.declared.Spaced.{Spaced}
use Rattle.stands.specs.Runs.{end_ordinate, run_sum}
use Rattle.stands.proofs.EndOrdinates.{run_none, run_step, run_near}
use Rattle.stands.proofs.run.Goals as goal

-- no axle yet
none : (q : Question) → for_question q (record { greatest = pos 0; least = pos 0 }) ≡ pos 0
none Greatest = refl
none Least = refl

-- an axle of the train is the array's
below : (r : Spaced) {i : ℕ} → i < length (take r.count r.axles) → i < r.count
below r l = omega (arith, l, length-take r.count r.axles)

item : (r : Spaced) (i : ℕ) → i < length (take r.count r.axles) → axle_at (take r.count r.axles) i ≡ axle_at r.axles i
item r i l = get_or-take r.count r.axles i _ (below r l)

pub loop-axle-init : goal.loop-axle-init
loop-axle-init c q =
    let a = c.args in
    (none q ∙ sym (run_none a.mode q a.line.now a.n a.train.now a.m 0), none q ∙ sym (run_none a.mode q a.line.now a.n a.train.now a.m 1))

-- the sums so far are within reach
pub with_axle-sum-requires : goal.with_axle-sum-requires
with_axle-sum-requires c =
    let a = c.args in
    let r = a.train.now in
    let i = c.loop-axle.axle-index in
    let l = below r c.loop-axle-test.true in (
      c.requires.0,
      subst (λ (x : Axle). x.load ≤ 400) (sym (item r i c.loop-axle-test.true)) (c.requires.1.load i l),
      λ q.
          let e = c.loop-axle.invariant q in
          let w = run_near a.mode q a.line.now a.n r a.m c.requires.0 c.requires.1 in
          (subst (Within train_most) (sym e.0) (w 0 (omega arith) i (omega arith)), subst (Within train_most) (sym e.1) (w 1 (omega arith) i (omega arith))),
    )

pub loop-axle-preserved : goal.loop-axle-preserved
loop-axle-preserved c q =
    let a = c.args in
    let r = a.train.now in
    let i = c.loop-axle.axle-index in
    let more : (end : ℕ) (v : ℤ) → v ≡ run_sum a.mode q a.line.now a.n r a.m end i →
    (λ (x : Axle). v +ℤ pos x.load *ℤ counted a.mode q (end_ordinate a.line.now a.n r.length (a.m + x.at) end)) (axle_at (take r.count r.axles) i) ≡ run_sum a.mode q a.line.now a.n r a.m end (i + 1) =
    λ end v e.
    ap (λ (x : Axle). v +ℤ pos x.load *ℤ counted a.mode q (end_ordinate a.line.now a.n r.length (a.m + x.at) end)) (item r i c.loop-axle-test.true)
    ∙ ap (λ (z : ℤ). z +ℤ pos (axle_at r.axles i).load *ℤ counted a.mode q (end_ordinate a.line.now a.n r.length (a.m + (axle_at r.axles i).at) end)) e
    ∙ sym (run_step a.mode q a.line.now a.n r a.m end i) in
    let e = c.with_axle-sum.ensures q in
    let f = c.loop-axle.invariant q in
    (e.0 ∙ more 0 _ f.0, e.1 ∙ more 1 _ f.1)
