-- The best of the centres tried so far.
use mathlib.Core.Path.{◌≡◌, refl, ◌∙◌, ap, subst}
use mathlib.Core.List.{List}
use Prim.Native.Nat.{ℕ, ◌+◌, ◌*◌, ◌/◌, ◌≤◌, ◌<◌}
use native.Mathlib.Nat.{le_refl, mul_comm, le-div_iff_mul-le}
use native.Mathlib.Decide.{dec_le}
use native.Mathlib.Omega.{arith}
use Rattle.exact.specs.Bounds.{Within}
use Rattle.exact.specs.Questions.{better_by, NoBetter}
use Rattle.exact.specs.declared.Question.{Question}
use Rattle.exact.proofs.Extremes.{no_better_trans, better_by_ind, better_by_left, better_by_right}
use Rattle.magnitudes.specs.Magnitudes.{transverse_most}
use Rattle.centres.specs.Candidates.{ordinate_at, centre_at, CentreStands, BestBefore}
use Rattle.centres.specs.declared.Centre.{Centre}

-- what trying one more centre keeps and adds
record Tried (q : Question) (s : List ℕ) (d lo hi : ℕ) (c : Centre) (at : ℕ) (r : Centre) : Type 0 where
  stands : CentreStands s d lo hi r
  kept : NoBetter q c.ordinate r.ordinate
  added : NoBetter q (ordinate_at s d at) r.ordinate

module _ (q : Question) (s : List ℕ) (d lo hi : ℕ) where
  abbrev tries : (c : Centre) (at : ℕ) → Centre
  tries c at = better_by (λ c. c.ordinate) q c (centre_at s d at)

  tried : (c : Centre) (at : ℕ) → CentreStands s d lo hi c → lo ≤ at → at ≤ hi → Within transverse_most (ordinate_at s d at) → Tried q s d lo hi c at (tries c at)
  tried c at st l r n =
      let value = λ (c : Centre). c.ordinate in
      let here = centre_at s d at in
      record {
        stands = better_by_ind value q (CentreStands s d lo hi) c here st (record { from = l; to = r; here = refl; near = n });
        kept = better_by_left value q c here;
        added = better_by_right value q c here;
      }

  -- lo and hi: a transverse ordinate from lo on and not past it is at lo
  pub limits_tried : 0 < d → lo ≤ hi → Within transverse_most (ordinate_at s d lo) → Within transverse_most (ordinate_at s d hi) →
      BestBefore q s d lo hi (lo / d + 1) (tries (centre_at s d lo) hi)
  limits_tried p l n n' =
      let first = centre_at s d lo in
      let t = tried first hi (record { from = le_refl lo; to = l; here = refl; near = n }) l (le_refl hi) n' in
      record {
        stands = t.stands;
        at_lo = t.kept;
        at_hi = t.added;
        between = λ k below left right.
            let e : lo ≡ d * k = omega (arith, mul_comm k d, (le-div_iff_mul-le {k = d} {x = k} {y = lo} p).0 (omega arith)) in
            subst (λ (y : ℕ). NoBetter q (ordinate_at s d y) (tries first hi).ordinate) e t.kept;
      }

  -- the next transverse ordinate
  pub next_tried : (m : ℕ) (c : Centre) → lo ≤ m * d → m * d ≤ hi → Within transverse_most (ordinate_at s d (m * d)) → BestBefore q s d lo hi m c → BestBefore q s d lo hi (m + 1) (tries c (m * d))
  next_tried m c l r n b =
      let t = tried c (m * d) b.stands l r n in
      record {
        stands = t.stands;
        at_lo = no_better_trans q _ _ _ b.at_lo t.kept;
        at_hi = no_better_trans q _ _ _ b.at_hi t.kept;
        between = λ k below left right. elim (dec_le m k) [
          | yes h ↦
              let e : m * d ≡ d * k = mul_comm m d ∙ ap (λ (x : ℕ). d * x) (omega arith) in
              subst (λ (y : ℕ). NoBetter q (ordinate_at s d y) (tries c (m * d)).ordinate) e t.added
          | no h ↦ no_better_trans q _ _ _ (b.between k (omega arith) left right) t.kept
        ];
      }
