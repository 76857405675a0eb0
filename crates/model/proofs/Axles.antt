-- No group of axles on k-ths of a piece, each a whole number of pieces from the leftmost, beats the best of its stations: between two stations it is a mean of the one's right and the other's left.
use Rattle.std.specs.Prelude.{if◌then◌else◌}
use mathlib.Core.Path.{◌≡◌, refl, sym, ◌∙◌, ap, ap₂, subst}
use mathlib.Core.Bool.{Bool, true, false}
use Prim.Native.Nat.{ℕ, zero, suc, ◌+◌, ◌-◌, ◌*◌, ◌/◌, ◌%◌, ◌≤◌, ◌<◌}
use native.Mathlib.Nat.{div-add-mod, mod-lt, div-one, mod-one, mod-eq_of_lt, div-eq_of_lt, mul-add-div, mul-add-mod_self_left, add-zero}
use native.Mathlib.Numerals.{add-one}
use native.Mathlib.Decide.{dec_le}
use native.Mathlib.Omega.{arith}
use lib.IntN.{ℤ, pos, negsuc, neg_ℤ, ◌+ℤ◌, ◌-ℤ◌, ◌*ℤ◌}
use lib.Signed.{◌≤ℤ◌, ◌<ℤ◌}
use lib.Dec.{ltb}
use Rattle.exact.specs.Ranges.{sum_to}
use Rattle.exact.specs.Questions.{NoBetter}
use Rattle.exact.specs.declared.Question.{Question}
use Rattle.exact.proofs.Exact.{order, ℕ→≤, ℕ→<, lt→le, pos_nonneg, prod, ◌⊕◌, ◌⊗◌, ◌⊝◌, neg, lit, ◌≐◌, ◌≼◌, ◌≺◌, ◌⇒◌, solve, linear}
use Rattle.exact.proofs.Extremes.{no_better_between}
use Rattle.exact.proofs.Ranges.{sum_cong, sum_zero, sum_add, sum_scale}
use Rattle.model.specs.Job.{InfluenceLine}
use Rattle.model.specs.Line.{along, ordinate}
use Rattle.model.specs.declared.Side.{Side}
use Rattle.model.specs.declared.Side.TheVariants.{Left, Right}
use Rattle.model.proofs.Signs.{off_right, off_left}

-- -(q + 1)
negsuc_is : (q : ℕ) → negsuc q ≡ neg_ℤ (pos q +ℤ pos 1)
negsuc_is q = ap (λ (n : ℕ). neg_ℤ (pos n)) (sym (add-one q))

negative : (m : ℕ) → negsuc m ≤ℤ negsuc 0
negative m = ℕ→≤ (omega arith)

-- left of the line there is nothing: from the left not at its end either
pub before_right : (line : InfluenceLine) (k : ℕ) (z : ℤ) → z <ℤ pos 0 → ordinate line k z Right ≡ pos 0
unfolding ordinate
before_right line k (pos a) h = absurd (not_below a h)
  where
    not_below : (a : ℕ) → pos a <ℤ pos 0 → ⊥
    not_below a h = omega (arith, order)
before_right line k (negsuc a) h = refl

pub before_left : (line : InfluenceLine) (k : ℕ) (z : ℤ) → z ≤ℤ pos 0 → ordinate line k z Left ≡ pos 0
unfolding ordinate
before_left line k (pos zero) h = refl
before_left line k (pos (suc a)) h = absurd (not_above a h)
  where
    not_above : (a : ℕ) → pos (suc a) ≤ℤ pos 0 → ⊥
    not_above a h = omega (arith, order)
before_left line k (negsuc a) h = refl

-- z k-ths of a piece are s whole pieces and r k-ths
abbrev place : ℕ → ℤ → ℕ → ℤ
place k s r = pos k *ℤ s +ℤ pos r

record Split (k : ℕ) (z : ℤ) : Type 0 where
  s : ℤ
  r : ℕ
  small : r < k
  same : place k s r ≡ z

split : (k : ℕ) (z : ℤ) → zero < k → Split k z
split k (pos a) h = record { s = pos (a / k); r = a % k; small = mod-lt a h; same = ap pos (div-add-mod a k) }
split k (negsuc a) h =
    let m = mod-lt a h in
    let f : k - suc (a % k) + a % k + 1 ≡ k = omega arith in
    record {
      s = negsuc (a / k);
      r = k - suc (a % k);
      small = omega arith;
      same =
          ap (λ (x : ℤ). place k x (k - suc (a % k))) (negsuc_is (a / k))
          ∙ linear 5 (λ k q m r a. k ⊗ q ⊕ m ≐ a ⇒ r ⊕ m ⊕ lit 1 ≐ k ⇒ k ⊗ neg (q ⊕ lit 1) ⊕ r ≐ neg (a ⊕ lit 1)) (pos k) (pos (a / k)) (pos (a % k)) (pos (k - suc (a % k))) (pos a) (omega arith)
          (ap pos (div-add-mod a k)) (ap pos f)
          ∙ sym (negsuc_is a);
    }

-- ---- one axle
module _ (line : InfluenceLine) (k : ℕ) where
  -- on piece m, r k-ths along; 0 off the line
  abbrev on : (m r : ℕ) → ℤ
  on m r = if ltb m line.pieces then along k r (line.piece m) else pos 0

  -- r k-ths of the way from station s to the next
  abbrev mean : (s : ℤ) (r : ℕ) → ℤ
  mean s r = (pos k -ℤ pos r) *ℤ ordinate line 1 s Right +ℤ pos r *ℤ ordinate line 1 (s +ℤ pos 1) Left

  nothing : (m r : ℕ) → pos 0 ≡ mean (negsuc m) r
  unfolding ordinate
  nothing m r =
      solve 2 (λ k r. lit 0 ≐ (k ⊝ r) ⊗ lit 0 ⊕ r ⊗ lit 0) tt (pos k) (pos r)
      ∙ ap (λ (x : ℤ). (pos k -ℤ pos r) *ℤ pos 0 +ℤ pos r *ℤ x) (sym (before_left line 1 (negsuc m +ℤ pos 1) (linear 1 (λ s. s ≼ neg (lit 1) ⇒ s ⊕ lit 1 ≼ lit 0) (negsuc m) (omega arith) (negative m))))

  on_mean : (m r : ℕ) → on m r ≡ mean (pos m) r
  unfolding ordinate along
  on_mean m r = rw (add-one m, div-one m, mod-one m) (go (ltb m line.pieces))
    where
      go : (t : Bool) → (if t then along k r (line.piece m) else pos 0) ≡ (pos k -ℤ pos r) *ℤ (if t then along 1 0 (line.piece m) else pos 0) +ℤ pos r *ℤ (if t then along 1 1 (line.piece m) else pos 0)
      go true =
          solve 4 (λ k r a b. (k ⊝ r) ⊗ a ⊕ r ⊗ b ≐ (k ⊝ r) ⊗ ((lit 1 ⊝ lit 0) ⊗ a ⊕ lit 0 ⊗ b) ⊕ r ⊗ ((lit 1 ⊝ lit 1) ⊗ a ⊕ lit 1 ⊗ b)) tt (pos k) (pos r) (line.piece m).left (line.piece m).right
      go false = solve 2 (λ k r. lit 0 ≐ (k ⊝ r) ⊗ lit 0 ⊕ r ⊗ lit 0) tt (pos k) (pos r)

  div_of : (m r : ℕ) → r < k → (k * m + r) / k ≡ m
  div_of m r h = let p : zero < k = omega arith in mul-add-div p m r ∙ ap (λ (x : ℕ). m + x) (div-eq_of_lt h) ∙ add-zero m

  mod_of : (m r : ℕ) → r < k → (k * m + r) % k ≡ r
  mod_of m r h = mul-add-mod_self_left k m r ∙ mod-eq_of_lt h

  -- left of the line's end
  below : (m r : ℕ) → r < k → (place k (negsuc m) r +ℤ pos 1) ≤ℤ pos 0
  below m r h =
      linear 3 (λ k s r. lit 0 ≼ (k ⊝ lit 0) ⊗ (neg (lit 1) ⊝ s) ⇒ r ≺ k ⇒ k ⊗ s ⊕ r ⊕ lit 1 ≼ lit 0) (pos k) (negsuc m) (pos r) (omega arith)
      (prod (pos_nonneg k) (negative m)) (ℕ→< (omega arith))

  -- from the right, at a station or after it; from the left, after a station or at the next
  axle_right : (s : ℤ) (r : ℕ) → r < k → ordinate line k (place k s r) Right ≡ mean s r
  unfolding ordinate
  axle_right (pos m) r h = rw (div_of m r h, mod_of m r h) (on_mean m r)
  axle_right (negsuc m) r h =
      before_right line k (place k (negsuc m) r) (linear 1 (λ x. x ⊕ lit 1 ≼ lit 0 ⇒ x ≺ lit 0) (place k (negsuc m) r) (omega arith) (below m r h))
      ∙ nothing m r

  axle_left : (s : ℤ) (r : ℕ) → r < k → ordinate line k (place k s r +ℤ pos 1) Left ≡ mean s (suc r)
  unfolding ordinate
  axle_left (pos m) r h = rw (add-one (k * m + r), div_of m r h, mod_of m r h) (on_mean m (suc r))
  axle_left (negsuc m) r h =
      before_left line k (place k (negsuc m) r +ℤ pos 1) (below m r h)
      ∙ nothing m (suc r)

-- ---- one axle at a station
module _ (line : InfluenceLine) where
  past : (m : ℕ) (side : Side) → line.pieces < m → ordinate line 1 (pos m) side ≡ pos 0
  past m Left h = off_left line m h
  past m Right h = off_right line m (omega arith)

  before : (z : ℤ) (side : Side) → z <ℤ pos 0 → ordinate line 1 z side ≡ pos 0
  before z Left h = before_left line 1 z (lt→le h)
  before z Right h = before_right line 1 z h

  -- in k-ths: k times the ordinate
  pub axle_at_lem : (k : ℕ) (s : ℤ) (side : Side) → zero < k → ordinate line k (pos k *ℤ s) side ≡ pos k *ℤ ordinate line 1 s side
  axle_at_lem k s Right h =
      ap (λ (x : ℤ). ordinate line k x Right) (solve 2 (λ k s. k ⊗ s ≐ k ⊗ s ⊕ lit 0) tt (pos k) s)
      ∙ axle_right line k s 0 h
      ∙ solve 3 (λ k x y. (k ⊝ lit 0) ⊗ x ⊕ lit 0 ⊗ y ≐ k ⊗ x) tt (pos k) (ordinate line 1 s Right) (ordinate line 1 (s +ℤ pos 1) Left)
  axle_at_lem k s Left h =
      let e : k - 1 + 1 ≡ k = omega arith in
      let f : suc (k - 1) ≡ k = omega arith in
      ap (λ (x : ℤ). ordinate line k x Left) (linear 3 (λ k s r. r ⊕ lit 1 ≐ k ⇒ k ⊗ s ≐ k ⊗ (s ⊝ lit 1) ⊕ r ⊕ lit 1) (pos k) s (pos (k - 1)) (omega arith) (ap pos e))
      ∙ axle_left line k (s -ℤ pos 1) (k - 1) (omega arith)
      ∙ ap (mean line k (s -ℤ pos 1)) f
      ∙ ap (λ (z : ℤ). (pos k -ℤ pos k) *ℤ ordinate line 1 (s -ℤ pos 1) Right +ℤ pos k *ℤ ordinate line 1 z Left) (solve 1 (λ s. s ⊝ lit 1 ⊕ lit 1 ≐ s) tt s)
      ∙ solve 3 (λ k x y. (k ⊝ k) ⊗ x ⊕ k ⊗ y ≐ k ⊗ y) tt (pos k) (ordinate line 1 (s -ℤ pos 1) Right) (ordinate line 1 s Left)

-- ---- a group of axles: what each counts an ordinate, and its distance from the leftmost in pieces
module _ (line : InfluenceLine) (n : ℕ) (load : ℕ → ℤ) (d : ℕ → ℕ) where
  -- what they count, times k, the leftmost at z k-ths: all take the same side
  abbrev pub group : (k : ℕ) (z : ℤ) (side : Side) → ℤ
  group k z side = sum_to n (λ i. load i *ℤ ordinate line k (z +ℤ pos (k * d i)) side)

  -- r k-ths of the way from station s to the next
  between_stations : (k : ℕ) (s : ℤ) (r : ℕ) → sum_to n (λ i. load i *ℤ mean line k (s +ℤ pos (1 * d i)) r) ≡ (pos k -ℤ pos r) *ℤ group 1 s Right +ℤ pos r *ℤ group 1 (s +ℤ pos 1) Left
  between_stations k s r =
      sum_cong n _ (λ i. (pos k -ℤ pos r) *ℤ right i +ℤ pos r *ℤ left i) (λ i l.
      ap (λ (z : ℤ). load i *ℤ ((pos k -ℤ pos r) *ℤ ordinate line 1 (s +ℤ pos (1 * d i)) Right +ℤ pos r *ℤ ordinate line 1 z Left)) (solve 2 (λ s e. s ⊕ e ⊕ lit 1 ≐ s ⊕ lit 1 ⊕ e) tt s (pos (1 * d i)))
      ∙ solve 5 (λ k r l x y. l ⊗ ((k ⊝ r) ⊗ x ⊕ r ⊗ y) ≐ (k ⊝ r) ⊗ (l ⊗ x) ⊕ r ⊗ (l ⊗ y)) tt
      (pos k) (pos r) (load i) (ordinate line 1 (s +ℤ pos (1 * d i)) Right) (ordinate line 1 (s +ℤ pos 1 +ℤ pos (1 * d i)) Left))
      ∙ sum_add n (λ i. (pos k -ℤ pos r) *ℤ right i) (λ i. pos r *ℤ left i)
      ∙ ap₂ ◌+ℤ◌ (sum_scale n (pos k -ℤ pos r) right) (sum_scale n (pos r) left)
    where
      right : ℕ → ℤ
      right i = load i *ℤ ordinate line 1 (s +ℤ pos (1 * d i)) Right

      left : ℕ → ℤ
      left i = load i *ℤ ordinate line 1 (s +ℤ pos 1 +ℤ pos (1 * d i)) Left

  group_right : (k : ℕ) (s : ℤ) (r : ℕ) → r < k → group k (place k s r) Right ≡ (pos k -ℤ pos r) *ℤ group 1 s Right +ℤ pos r *ℤ group 1 (s +ℤ pos 1) Left
  group_right k s r l =
      sum_cong n _ (λ i. load i *ℤ mean line k (s +ℤ pos (1 * d i)) r) (λ i h.
      ap (λ (z : ℤ). load i *ℤ ordinate line k z Right) (solve 4 (λ k s r d. k ⊗ s ⊕ r ⊕ k ⊗ d ≐ k ⊗ (s ⊕ lit 1 ⊗ d) ⊕ r) tt (pos k) s (pos r) (pos (d i)))
      ∙ ap (λ (x : ℤ). load i *ℤ x) (axle_right line k (s +ℤ pos (1 * d i)) r l))
      ∙ between_stations k s r

  group_left : (k : ℕ) (s : ℤ) (r : ℕ) → r < k → group k (place k s r +ℤ pos 1) Left ≡ (pos k -ℤ pos (suc r)) *ℤ group 1 s Right +ℤ pos (suc r) *ℤ group 1 (s +ℤ pos 1) Left
  group_left k s r l =
      sum_cong n _ (λ i. load i *ℤ mean line k (s +ℤ pos (1 * d i)) (suc r)) (λ i h.
      ap (λ (z : ℤ). load i *ℤ ordinate line k z Left) (solve 4 (λ k s r d. k ⊗ s ⊕ r ⊕ lit 1 ⊕ k ⊗ d ≐ k ⊗ (s ⊕ lit 1 ⊗ d) ⊕ r ⊕ lit 1) tt (pos k) s (pos r) (pos (d i)))
      ∙ ap (λ (x : ℤ). load i *ℤ x) (axle_left line k (s +ℤ pos (1 * d i)) r l))
      ∙ between_stations k s (suc r)

  -- what no station beats, no stand on k-ths beats k times
  parts_bound : (q : Question) (v : ℤ) → ((s : ℤ) (side : Side) → NoBetter q (group 1 s side) v) → (k : ℕ) (z : ℤ) (side : Side) → zero < k → NoBetter q (group k z side) (pos k *ℤ v)
  parts_bound q v at k z Right h =
      let t = split k z h in
      let l = t.small in
      subst (λ (x : ℤ). NoBetter q (group k x Right) (pos k *ℤ v)) t.same
      (subst (λ (x : ℤ). NoBetter q x (pos k *ℤ v)) (sym (group_right k t.s t.r l))
      (no_better_between q k t.r _ _ v (omega arith) (at t.s Right) (at (t.s +ℤ pos 1) Left)))
  parts_bound q v at k z Left h =
      let t = split k (z -ℤ pos 1) h in
      let l = t.small in
      subst (λ (x : ℤ). NoBetter q (group k x Left) (pos k *ℤ v)) (ap (λ (x : ℤ). x +ℤ pos 1) t.same ∙ solve 1 (λ z. z ⊝ lit 1 ⊕ lit 1 ≐ z) tt z)
      (subst (λ (x : ℤ). NoBetter q x (pos k *ℤ v)) (sym (group_left k t.s t.r l))
      (no_better_between q k (suc t.r) _ _ v (omega arith) (at t.s Right) (at (t.s +ℤ pos 1) Left)))

  -- the group off the line counts nothing
  off : (z : ℤ) (side : Side) → ((i : ℕ) → i < n → ordinate line 1 (z +ℤ pos (1 * d i)) side ≡ pos 0) → group 1 z side ≡ pos 0
  off z side none = sum_zero n _ (λ i l. ap (λ (x : ℤ). load i *ℤ x) (none i l) ∙ solve 1 (λ x. x ⊗ lit 0 ≐ lit 0) tt (load i))

  -- the stations from the group's length before the line to its right end are all that count
  module _ (length : ℕ) (within : (i : ℕ) → i < n → d i ≤ length) (q : Question) (v : ℤ) (tried : (m : ℕ) → m ≤ line.pieces + length → (side : Side) → NoBetter q (group 1 (pos m -ℤ pos length) side) v) where
    -- none of them counts nothing but the last, from the right
    nothing_bound : NoBetter q (pos 0) v
    nothing_bound =
        subst (λ (x : ℤ). NoBetter q x v) (ap (λ (z : ℤ). group 1 z Right) (solve 2 (λ n d. n ⊕ d ⊝ d ≐ n) tt (pos line.pieces) (pos length)) ∙ off (pos line.pieces) Right (λ i l. off_right line (line.pieces + 1 * d i) (omega arith)))
        (tried (line.pieces + length) (omega arith) Right)

    stations_bound : (s : ℤ) (side : Side) → NoBetter q (group 1 s side) v
    stations_bound (pos m) side = elim (dec_le m line.pieces) [
      | yes h ↦ subst (λ (z : ℤ). NoBetter q (group 1 z side) v) (solve 2 (λ m d. m ⊕ d ⊝ d ≐ m) tt (pos m) (pos length)) (tried (m + length) (omega arith) side)
      | no h ↦ subst (λ (x : ℤ). NoBetter q x v) (sym (off (pos m) side (λ i l. past line (m + 1 * d i) side (omega arith)))) nothing_bound
    ]
    stations_bound (negsuc m) side = elim (dec_le (suc m) length) [
      | yes h ↦ subst (λ (z : ℤ). NoBetter q (group 1 z side) v) (back h) (tried (length - suc m) (omega arith) side)
      | no h ↦ subst (λ (x : ℤ). NoBetter q x v) (sym (off (negsuc m) side (λ i l. let w = within i l in before line (negsuc m +ℤ pos (1 * d i)) side (short (1 * d i) (omega arith))))) nothing_bound
    ]
      where
        back : suc m ≤ length → pos (length - suc m) -ℤ pos length ≡ negsuc m
        back h =
            let e : length - suc m + (m + 1) ≡ length = omega arith in
            linear 3 (λ a m d. a ⊕ (m ⊕ lit 1) ≐ d ⇒ a ⊝ d ≐ neg (m ⊕ lit 1)) (pos (length - suc m)) (pos m) (pos length) (omega arith) (ap pos e) ∙ sym (negsuc_is m)

        short : (e : ℕ) → e ≤ m → (negsuc m +ℤ pos e) <ℤ pos 0
        short e h = linear 3 (λ s m d. s ≐ neg (m ⊕ lit 1) ⇒ d ≼ m ⇒ s ⊕ d ≺ lit 0) (negsuc m) (pos m) (pos e) (omega arith) (negsuc_is m) (ℕ→≤ (omega arith))

    -- no stand beats what no station beats, on the line or off, for every whole k
    pub group_bound : (k : ℕ) (z : ℤ) (side : Side) → zero < k → NoBetter q (group k z side) (pos k *ℤ v)
    group_bound k z side h = parts_bound q v stations_bound k z side h
