-- A sense's area and best pair make a kind's line effect.
use mathlib.Core.Path.{◌≡◌, sym, ◌∙◌, ap, ap₂}
use Prim.Native.Nat.{ℕ, ◌≤◌}
use native.Mathlib.Omega.{arith}
use lib.IntN.{ℤ, pos, ◌+ℤ◌, ◌*ℤ◌}
use Rattle.exact.specs.Parts.{up}
use Rattle.exact.specs.Bounds.{Within}
use Rattle.exact.proofs.Bounds.{within_pos}
use Rattle.exact.specs.Ranges.{sum_to}
use Rattle.exact.proofs.Ranges.{sum_scale}
use Rattle.exact.proofs.Ring.{◌⊗◌, ◌≐◌, solve}
use Rattle.magnitudes.specs.Magnitudes.{line_most}
use Rattle.model.specs.Job.{InfluenceLine}
use Rattle.model.specs.Line.{Kind, axle, uniform, piece_load, uniform_part, best_pair, line_effect}
use Rattle.model.specs.declared.Sense.{Sense}
use Rattle.line.specs.Sought.{loaded_sum, double_area, kind_of, EffectRight}
use Rattle.line.specs.declared.sought.Sought.{Sought}
use Rattle.line.specs.declared.kinds.Kind.{Kind as CodeKind}
use Rattle.line.specs.declared.kinds.Kind.TheVariants.{Hn, Ho}

-- 7 times the double area of a sense's pieces is the sum of their loads
uniform_area : (line : InfluenceLine) (sense : Sense) → uniform *ℤ double_area line sense ≡ uniform_part line sense
unfolding double_area piece_load uniform_part
uniform_area line sense =
    let f : ℕ → ℤ = λ i. loaded_sum sense (line.piece i) in
    solve 3 (λ u h s. u ⊗ (h ⊗ s) ≐ u ⊗ h ⊗ s) tt uniform (pos line.h) (sum_to line.pieces f)
    ∙ sym (sum_scale line.pieces (uniform *ℤ pos line.h) f)

pub kind_effect : (kind : Kind) (s : Sought) {r : ℤ} → (r ≡ uniform *ℤ s.area +ℤ axle kind *ℤ s.pair) × Within (line_most kind) r → EffectRight kind s r
unfolding line_effect
kind_effect kind s e = record {
  is = λ line sense p. e.0 ∙ ap₂ (λ (a b : ℤ). uniform *ℤ a +ℤ axle kind *ℤ b) p.area p.pair ∙ ap (λ (u : ℤ). u +ℤ axle kind *ℤ best_pair line sense) (uniform_area line sense);
  near = e.1;
}

-- an axle of a kind is at most 3200
pub axle_near : (k : CodeKind) → Within (up (axle (kind_of k))) (axle (kind_of k))
axle_near Hn = within_pos 1600 (omega arith)
axle_near Ho = within_pos 3200 (omega arith)

pub axle_few : (k : CodeKind) → up (axle (kind_of k)) ≤ 3200
axle_few Hn = omega arith
axle_few Ho = omega arith
