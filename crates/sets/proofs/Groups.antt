-- A group of lanes gathered lane by lane.
use Rattle.std.specs.Prelude.{if◌then◌else◌}
use mathlib.Core.Path.{◌≡◌, sym, ◌∙◌, ap, ap₂, subst}
use mathlib.Core.Bool.{Bool, true, false}
use Prim.Native.Nat.{ℕ, suc, ◌+◌, ◌*◌, ◌^◌, ◌≤◌, ◌<◌}
use native.Mathlib.Nat.{mul_comm, mul-le-mul_right, le_trans}
use native.Mathlib.Numerals.{add-one}
use native.Mathlib.Omega.{arith}
use lib.IntN.{ℤ, pos, ◌+ℤ◌}
use Rattle.exact.specs.Bounds.{Within}
use Rattle.exact.specs.Ranges.{count_to}
use Rattle.exact.proofs.Bounds.{within_le}
use Rattle.exact.proofs.Ring.{◌⊕◌, lit, ◌≐◌, solve}
use Rattle.exact.proofs.Weights.{sum_where, count_le, sum_near}
use Rattle.model.specs.Lanes.{bit}
use Rattle.model.proofs.Sets.{set_number, set_below, set_bit}
use Rattle.sets.specs.declared.Group.{Group}

-- of the first i lanes, those that pass, and what they give
pub record Gathered (i : ℕ) (test : ℕ → Bool) (v : ℕ → ℤ) (group : Group) : Type 0 where
  pub set : group.set ≡ set_number i test
  pub sum : group.sum ≡ sum_where i test v

-- one lane more
pub gathered_more : {i : ℕ} {test : ℕ → Bool} {v : ℕ → ℤ} {group r : Group} (t : Bool) (x : ℤ) → Gathered i test v group → t ≡ test i → x ≡ v i →
    r ≡ (if t then record { set = group.set + 2 ^ i; sum = group.sum +ℤ x } else group) → Gathered (i + 1) test v r
gathered_more {i} {test} {v} {group} {r} t x g is-t is_x is =
    subst (Gathered (i + 1) test v) (sym is)
    (subst (λ (m : ℕ). Gathered m test v (if t then record { set = group.set + 2 ^ i; sum = group.sum +ℤ x } else group)) (sym (add-one i)) (go t is-t))
  where
    whole : set_number i test + 2 ^ i ≡ 1 * 2 ^ i + set_number i test
    whole = omega arith

    nothing : set_number i test ≡ 0 * 2 ^ i + set_number i test
    nothing = omega arith

    go : (t : Bool) → t ≡ test i → Gathered (suc i) test v (if t then record { set = group.set + 2 ^ i; sum = group.sum +ℤ x } else group)
    go true e = record {
      set = ap (λ (s : ℕ). s + 2 ^ i) g.set ∙ whole ∙ ap (λ (t : Bool). (if t then 1 else 0) * 2 ^ i + set_number i test) e;
      sum = ap₂ ◌+ℤ◌ g.sum is_x ∙ ap (λ (t : Bool). sum_where i test v +ℤ (if t then v i else pos 0)) e;
    }
    go false e = record {
      set = g.set ∙ nothing ∙ ap (λ (t : Bool). (if t then 1 else 0) * 2 ^ i + set_number i test) e;
      sum = g.sum ∙ solve 1 (λ s. s ≐ s ⊕ lit 0) tt (sum_where i test v) ∙ ap (λ (t : Bool). sum_where i test v +ℤ (if t then v i else pos 0)) e;
    }

module _ {i : ℕ} {test : ℕ → Bool} {v : ℕ → ℤ} {group : Group} (g : Gathered i test v group) where
  pub gathered_small : group.set < 2 ^ i
  gathered_small = subst (λ (s : ℕ). s < 2 ^ i) (sym g.set) (set_below i test)

  pub gathered_bits : (k : ℕ) → k < i → bit group.set k ≡ test k
  gathered_bits k h = ap (λ (s : ℕ). bit s k) g.set ∙ set_bit i test k h

  pub gathered_near : (b m : ℕ) → ((k : ℕ) → k < i → Within b (v k)) → i ≤ m → Within (m * b) group.sum
  gathered_near b m near h = subst (Within (m * b)) (sym g.sum) (within_le (sum_near b i test v near) (let c = count_le i test in subst (λ (x : ℕ). x ≤ m * b) (mul_comm (count_to i test) b) (mul-le-mul_right b (le_trans c h))))
