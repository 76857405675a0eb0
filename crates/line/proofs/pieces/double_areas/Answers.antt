use mathlib.Core.Path.{◌≡◌, ap₂, subst}
use mathlib.Core.List.{List}
use Prim.Native.Nat.{ℕ, ◌+◌, ◌*◌, ◌^◌, ◌≤◌, ◌<◌}
use native.Mathlib.Omega.{arith}
use lib.Dec.{lit<}
use lib.IntN.{ℤ, pos, ◌+ℤ◌}
use lib.Signed.{mag}
use mir.Syntax.{w16, w32, w64}
use mir.Val.{to_z, of_z}
use Rattle.exact.specs.Bounds.{Within}
use Rattle.exact.proofs.Bounds.{within_add}
use Rattle.exact.proofs.Ranges.{sum_step}
use Rattle.exact.proofs.Held.{told, Room, Held, known, nat, got, retold, loosen, cast, times}
use Rattle.model.specs.Decode.{piece_at}
use Rattle.model.specs.declared.Sense.{Sense}
use Rattle.model.specs.declared.Sense.TheVariants.{Raising, Lowering}
use Rattle.line.specs.Sought.{loaded_sum, double_area}
use Rattle.line.proofs.Fitting.{area_room}
use Rattle.line.proofs.pieces.double_areas.Invariants.{sums}
use Rattle.line.proofs.pieces.double_areas.Goals as goal

-- one piece more, and the sum of all times h
module _ (sense : Sense) (line : List ℕ) where
  more : (i : ℕ) → i < 1000 → {x y : ℤ} → (x ≡ sums sense line i) × Within (10000 * i) x → mag y < 2 ^ 15 → (y ≡ loaded_sum sense (piece_at line i)) × Within 10000 y → Held w32 (of_z w32 (x +ℤ to_z w32 (of_z w32 (to_z w16 (of_z w16 y))))) (10000 * (i + 1)) (sums sense line (i + 1))
  more i l p ok e =
      let next = cast (got w16 ok e) w32 (lit< tt) in
      rw sum_step (loosen (retold (known w32 (within_add p.1 (told next).1) (omega arith)) (ap₂ ◌+ℤ◌ p.0 next.is)) (omega arith))

  -- over all pieces
  total : (i n : ℕ) → i ≡ n → n ≤ 1000 → {x : ℤ} → (x ≡ sums sense line i) × Within (10000 * i) x → Held w64 (of_z w64 x) (10000 * n) (sums sense line n)
  total i n all l {x} p = retold (known w64 (subst (λ (k : ℕ). Within (10000 * k) x) all p.1) (omega arith)) (subst (λ (k : ℕ). x ≡ sums sense line k) all p.0)

long_of : (h : ℕ) → h ≤ 50 → Held w64 h h (pos h)
long_of h l = nat w64 h (omega arith) (omega arith)

fits : (h n : ℕ) → n * h ≤ 1000 → Room w64 (h * (10000 * n))
fits h n l = omega (arith, area_room h n l)

pub loop-i-preserved : goal.loop-i-preserved
loop-i-preserved c =
    let l = c.loop-i in
    let line = c.args.line.now in
    let few : l.i < 1000 = omega (arith, c.requires.line_fits.few) in
    (omega arith, told (more Raising line l.i few l.invariant.1 c.loaded_sum.type_inv c.loaded_sum.ensures), told (more Lowering line l.i few l.invariant.2 c.loaded_sum-in-loop-i.type_inv c.loaded_sum-in-loop-i.ensures))

pub returns : goal.returns
unfolding double_area
returns c Raising =
    let l = c.loop-i in
    let a = c.args in
    let long = long_of a.h c.requires.h_bound.0 in
    told (loosen (times long (total Raising a.line.now l.i a.n (omega arith) c.requires.line_fits.few l.invariant.1) (fits a.h a.n c.requires.h_bound.1)) (area_room a.h a.n c.requires.h_bound.1))
returns c Lowering =
    let l = c.loop-i in
    let a = c.args in
    let long = long_of a.h c.requires.h_bound.0 in
    told (loosen (times long (total Lowering a.line.now l.i a.n (omega arith) c.requires.line_fits.few l.invariant.2) (fits a.h a.n c.requires.h_bound.1)) (area_room a.h a.n c.requires.h_bound.1))
