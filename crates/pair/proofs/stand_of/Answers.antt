use mathlib.Core.Path.{◌≡◌, refl, sym, ◌∙◌, ap}
use mathlib.Core.Bool.{false}
use Prim.Native.Nat.{ℕ, ◌+◌, ◌*◌, ◌/◌, ◌%◌, ◌≤◌, ◌<◌}
use native.Mathlib.Omega.{arith}
use lib.Dec.{lit<}
use lib.IntN.{ℤ, pos, nat_abs, ◌+ℤ◌, ◌-ℤ◌, ◌*ℤ◌}
use lib.Signed.{lt_z}
use mir.Syntax.{w16, w32}
use Rattle.exact.specs.Parts.{up}
use Rattle.exact.specs.Bounds.{Within}
use Rattle.exact.specs.declared.Question.{Question}
use Rattle.exact.proofs.Bounds.{within_abs}
use Rattle.exact.proofs.Bridge.{by_test, added}
use Rattle.exact.proofs.Held.{told, any, got, ret, retold, lit, nat, cast, index_is, plus, minus, times}
use Rattle.exact.proofs.Ring.{◌⊕◌, ◌⊝◌, lit as num, ◌≐◌, solve}
use Rattle.exact.proofs.Tests.{lt_is}
use Rattle.model.specs.declared.Side.{Side}
use Rattle.pair.specs.PairPlaces.{side_at, turned, rank_of, rank_most, stand_of}
use Rattle.pair.proofs.Places.{turn_back, turn_near, raised, rank_raised}
use Rattle.pair.proofs.stand_of.Goals as goal

-- a turned rank is raised to a natural number
natural : (z : ℤ) → Within rank_most z → lt_z (z +ℤ pos 65536 *ℤ pos 10001) (pos 0) ≡ false
natural z near = by_test (lt_z (z +ℤ pos 655425536) (pos 0)) (λ b. b ≡ false) (λ t. absurd (omega (arith, lt_is (z +ℤ pos 655425536) (pos 0) t, added z (pos 655425536), near.dn≤))) (λ _. refl)

small : (n : ℕ) → n ≤ rank_most + 655425536 → n / 65536 < 20003
small n h = omega (arith, h)

same : {v w : ℤ} {k p : ℕ} {side : Side} → v ≡ w → k ≡ p → side ≡ side_at k → record { value = v; station = k / 2; side = side } ≡ stand_of w p
same e f g = rw (e, g, f) refl

-- what is raised, of a rank of v and p, and the ordinates from it
raise_of : (q : Question) (r v : ℤ) (p : ℕ) → Within 10000 v → r ≡ rank_of q v p → nat_abs (turned q r +ℤ pos 65536 *ℤ pos 10001) ≡ 65536 * up (turned q v +ℤ pos 10001) + p
raise_of q r v p near e = ap nat_abs (ap (λ (z : ℤ). turned q z +ℤ pos 65536 *ℤ pos 10001) e ∙ rank_raised q v p near)

value_of : (q : Question) (v : ℤ) (k : ℕ) → Within 10000 v → k ≡ up (turned q v +ℤ pos 10001) → turned q (pos k -ℤ pos 10001) ≡ v
value_of q v k near e =
    let w = turned q v in
    ap (turned q) (ap (λ (k : ℕ). pos k -ℤ pos 10001) e ∙ ap (λ (z : ℤ). z -ℤ pos 10001) (sym (raised w (turn_near q near))) ∙ solve 1 (λ w. w ⊕ num 10001 ⊝ num 10001 ≐ w) tt w) ∙ turn_back q v

high_part : (x a p : ℕ) → x ≡ 65536 * a + p → p ≤ 4095 → x / 65536 ≡ a
high_part x a p e l = omega arith

low_part : (x a p : ℕ) → x ≡ 65536 * a + p → p ≤ 4095 → x % 65536 ≡ p
low_part x a p e l = omega arith

pub returns : goal.returns
returns c =
    let q = c.args.q in
    let rank = retold (got w32 c.turn.type_inv c.turn.ensures) (ap (turned q) (any c.ranges.rank).is) in
    let raise = times (lit w32 65536 (lit< tt)) (lit w32 10001 (lit< tt)) (lit< tt) in
    let sum = plus rank raise (lit< tt) in
    let few = small _ (within_abs _ (told sum).1) in
    let high = nat w32 20003 (omega (arith, few)) (omega (arith, few)) in
    let lowered = minus high (lit w32 10001 (lit< tt)) (lit< tt) in
    let value = ret w32 c.turn-2.type_inv (c.turn-2.ensures.0 ∙ ap (turned q) lowered.is) (turn_near q lowered.near) in (
      λ v p near small_place e.
          let whole = index_is sum (natural _ rank.near) ∙ raise_of q c.args.rank v p near e in
          same ((cast value w16 (lit< tt)).is ∙ value_of q v _ near (high_part _ _ p whole small_place)) (low_part _ _ p whole small_place) c.side_of.ensures,
      omega arith,
    )
