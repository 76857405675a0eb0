use mathlib.Core.Path.{◌≡◌, refl, ◌∙◌, subst}
use mathlib.Core.Bool.{true, false}
use Prim.Native.Nat.{◌≤◌}
use native.Mathlib.Omega.{arith}
use lib.Dec.{T, lit<}
use lib.IntN.{ℤ, pos, negsuc, nat_abs}
use lib.Signed.{lt_z}
use mir.Syntax.{w64}
use Rattle.exact.specs.Parts.{up}
use Rattle.words.specs.Words.{word_at}
use Rattle.exact.proofs.Bounds.{within_abs}
use Rattle.exact.proofs.Tests.{lt_is}
use Rattle.exact.proofs.Held.{got, lit, lt_yes, lt_no, index!, index_is}
use Rattle.words.proofs.count.Goals as goal

-- a number below 0 counts as 0
below : (z : ℤ) → lt_z z (pos 0) ≡ true → 0 ≡ up z
below (pos n) e = absurd (omega (arith, lt_is (pos n) (pos 0) e))
below (negsuc n) e = refl

-- and any other as itself
not_below : (z : ℤ) → lt_z z (pos 0) ≡ false → nat_abs z ≡ up z
not_below (pos n) e = refl
not_below (negsuc n) e = absurd (subst T e tt)

pub returns-then-w-lt0 : goal.returns-then-w-lt0
returns-then-w-lt0 c =
    let a = c.args in
    let w = got w64 c.word-w.type_inv c.word-w.ensures in
    (below (word_at a.s.now a.p) (lt_yes w (lit w64 0 (lit< tt)) c.if-w-lt0.true), omega arith)

pub overflow_cast-result : goal.overflow_cast-result
overflow_cast-result c =
    let w = got w64 c.word-w.type_inv c.word-w.ensures in
    index! w (lt_no w (lit w64 0 (lit< tt)) c.if-w-lt0.false) w64 (lit< tt)

pub returns : goal.returns
returns c =
    let w = got w64 c.word-w.type_inv c.word-w.ensures in
    let e = lt_no w (lit w64 0 (lit< tt)) c.if-w-lt0.false in
    let a = c.args in
    let z = word_at a.s.now a.p in
    let n : nat_abs z ≤ 2147483648 = within_abs z w.near in
    (index_is w e ∙ not_below z e, rw (index_is w e) n)
