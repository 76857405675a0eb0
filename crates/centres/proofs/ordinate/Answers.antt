use mathlib.Core.Path.{◌≡◌, refl, ◌∙◌}
use mathlib.Core.List.{List}
use Prim.Native.Nat.{ℕ, ◌+◌, ◌-◌, ◌*◌, ◌/◌, ◌%◌, ◌≤◌, ◌<◌}
use native.Mathlib.Nat.{mod-lt}
use native.Mathlib.Omega.{arith}
use lib.Dec.{lit<}
use lib.IntN.{ℤ, pos, ◌*ℤ◌}
use lib.Signed.{mag}
use mir.Syntax.{w16, w32}
use borrow.Author.Rules.{rules}
use Rattle.exact.specs.Bounds.{Within}
use Rattle.exact.proofs.Held.{Kept, nat, ret, cast, plus, plus!, times, times! }
use Rattle.words.specs.Words.{word_at}
use Rattle.centres.specs.Transverse.{OrdinatesTo}
use Rattle.centres.proofs.Ordinates.{ordinate_weights, ordinate_near}
use Rattle.centres.proofs.ordinate.Goals as goal

module _ (s : List ℕ) (d centre : ℕ) (p : 0 < d) (most : d ≤ 250) (o : OrdinatesTo s (centre / d + 1)) where
  -- the remainder is below d
  small : centre % d < d
  small = mod-lt centre p

  -- both words are ordinates
  left : Within 1000 (word_at s (centre / d))
  left = o.near (centre / d) (omega arith)

  right : Within 1000 (word_at s (centre / d + 1))
  right = o.near (centre / d + 1) (omega arith)

  -- the two weights
  abbrev d-j : Kept w32 (d - centre % d) (pos (d - centre % d))
  d-j = (_, nat w32 (d - centre % d) (omega arith) (omega arith))

  abbrev j : Kept w32 (centre % d) (pos (centre % d))
  j = let h = small in (_, nat w32 (centre % d) (omega arith) (omega arith))

  -- each ordinate, widened, and its share
  module _ {a : ℤ} (ok : mag a < 32768) (e : a ≡ word_at s (centre / d)) where
    abbrev y : Kept w32 1000 (word_at s (centre / d))
    y = (_, cast (ret w16 ok e left) w32 (lit< tt))

    abbrev from_left : Kept w32 ((d - centre % d) * 1000) (pos (d - centre % d) *ℤ word_at s (centre / d))
    from_left = (_, times d-j.1 y.1 (omega arith))

  module _ {b : ℤ} (ok : mag b < 32768) (e : b ≡ word_at s (centre / d + 1)) where
    abbrev z : Kept w32 1000 (word_at s (centre / d + 1))
    z = (_, cast (ret w16 ok e right) w32 (lit< tt))

    abbrev from_right : Kept w32 (centre % d * 1000) (pos (centre % d) *ℤ word_at s (centre / d + 1))
    from_right = let h = small in (_, times j.1 z.1 (omega arith))

pub overflow_mul-result : goal.overflow_mul-result
overflow_mul-result c =
    let a = c.args in
    let r = c.requires in
    search (rules, times! (d-j a.across.now a.d a.centre r.d_nonzero r.d_bound r.ordinates_to).1 (y a.across.now a.d a.centre r.d_nonzero r.d_bound r.ordinates_to c.ordinate.type_inv c.ordinate.ensures).1 (omega arith))

pub overflow_mul-result-2 : goal.overflow_mul-result-2
overflow_mul-result-2 c =
    let a = c.args in
    let r = c.requires in
    let h = small a.across.now a.d a.centre r.d_nonzero r.d_bound r.ordinates_to in
    times! (j a.across.now a.d a.centre r.d_nonzero r.d_bound r.ordinates_to).1 (z a.across.now a.d a.centre r.d_nonzero r.d_bound r.ordinates_to c.ordinate-2.type_inv c.ordinate-2.ensures).1 (omega arith)

pub overflow_add-result : goal.overflow_add-result
overflow_add-result c =
    let a = c.args in
    let r = c.requires in
    let h = small a.across.now a.d a.centre r.d_nonzero r.d_bound r.ordinates_to in
    plus! (from_left a.across.now a.d a.centre r.d_nonzero r.d_bound r.ordinates_to c.ordinate.type_inv c.ordinate.ensures).1
    (from_right a.across.now a.d a.centre r.d_nonzero r.d_bound r.ordinates_to c.ordinate-2.type_inv c.ordinate-2.ensures).1 (omega arith)

pub returns : goal.returns
returns c =
    let a = c.args in
    let r = c.requires in
    let h = small a.across.now a.d a.centre r.d_nonzero r.d_bound r.ordinates_to in
    rw ((plus (from_left a.across.now a.d a.centre r.d_nonzero r.d_bound r.ordinates_to c.ordinate.type_inv c.ordinate.ensures).1
    (from_right a.across.now a.d a.centre r.d_nonzero r.d_bound r.ordinates_to c.ordinate-2.type_inv c.ordinate-2.ensures).1 (omega arith)).is ∙ ordinate_weights a.across.now a.d a.centre r.d_nonzero)
    (refl, ordinate_near a.across.now a.d a.centre r.d_nonzero r.d_bound r.ordinates_to)
