-- The transverse ordinate of a section at a centre.
use mathlib.Core.Path.{◌≡◌, ap₂, subst}
use mathlib.Core.List.{List}
use Prim.Native.Nat.{ℕ, ◌+◌, ◌-◌, ◌*◌, ◌/◌, ◌%◌, ◌≤◌, ◌<◌}
use native.Mathlib.Nat.{mod-lt, le_refl, le_of_lt, le-div_iff_mul-le, div-lt_iff_lt-mul}
use native.Mathlib.Numerals.{add-one}
use native.Mathlib.Omega.{arith}
use lib.IntN.{ℤ, pos, ◌+ℤ◌, ◌-ℤ◌, ◌*ℤ◌}
use Rattle.exact.specs.Bounds.{Within}
use Rattle.exact.proofs.Bounds.{within_le, within_pos, within_add, within_mul}
use Rattle.exact.proofs.Bridge.{subbed, ℕ→≡}
use Rattle.exact.proofs.Rounding.{div_mono}
use Rattle.words.specs.Words.{word_at}
use Rattle.magnitudes.specs.Magnitudes.{transverse_most}
use Rattle.centres.specs.Transverse.{OrdinatesTo}
use Rattle.centres.specs.Candidates.{ordinate_at}

-- with the weights as differences of naturals
pub ordinate_weights : (s : List ℕ) (d centre : ℕ) → 0 < d → pos (d - centre % d) *ℤ word_at s (centre / d) +ℤ pos (centre % d) *ℤ word_at s (centre / d + 1) ≡ ordinate_at s d centre
unfolding ordinate_at
ordinate_weights s d centre p =
    let h : centre % d < d = mod-lt centre p in
    ap₂ (λ (x : ℤ) (m : ℕ). x *ℤ word_at s (centre / d) +ℤ pos (centre % d) *ℤ word_at s m)
    (ℕ→≡ (pos (d - centre % d)) (pos d -ℤ pos (centre % d)) (omega (arith, subbed (pos d) (pos (centre % d))))) (add-one (centre / d))

-- a weighted mean of two ordinates of at most 1000, times d
pub ordinate_near : (s : List ℕ) (d centre : ℕ) → 0 < d → d ≤ 250 → OrdinatesTo s (centre / d + 1) → Within transverse_most (ordinate_at s d centre)
ordinate_near s d centre p l o =
    let h : centre % d < d = mod-lt centre p in
    subst (Within transverse_most) (ordinate_weights s d centre p)
    (within_le
    (within_add (within_mul (within_pos (d - centre % d) (le_refl _)) (o.near (centre / d) (omega arith))) (within_mul (within_pos (centre % d) (le_refl _)) (o.near (centre / d + 1) (omega arith))))
    (omega arith))

-- the ordinates for a centre do for one to its left
pub ordinates_left : (s : List ℕ) (d at hi : ℕ) → 0 < d → at ≤ hi → OrdinatesTo s (hi / d + 1) → OrdinatesTo s (at / d + 1)
ordinates_left s d at hi p l o =
    let h : at / d ≤ hi / d = div_mono p l in
    let r = o.room in
    record { room = omega arith; near = λ k b. o.near k (omega arith) }

-- the ordinates past lo / d and not past hi / d lie from lo to hi
pub ordinate_between : (d lo hi m : ℕ) → 0 < d → lo / d < m → m < hi / d + 1 → (lo ≤ m * d) × (m * d ≤ hi)
ordinate_between d lo hi m p l r = (le_of_lt ((div-lt_iff_lt-mul p).0 l), (le-div_iff_mul-le p).0 (omega arith))
