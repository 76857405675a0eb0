-- No element in a lane beats the lane's best: the transverse line is straight between its ordinates, and these and the lane's limits are whole units.
use mathlib.Core.Path.{◌≡◌, sym, ◌∙◌, ap, ap₂, subst}
use mathlib.Core.Logic.{inl, inr}
use Prim.Native.Nat.{ℕ, zero, suc, ◌+◌, ◌-◌, ◌*◌, ◌/◌, ◌%◌, ◌≤◌, ◌<◌}
use native.Mathlib.Nat.{div-add-mod, mod-lt, mod-eq_of_lt, div-eq_of_lt, mul-add-div, mul-add-mod_self_left, add-zero, mul-pos, mul_assoc, mul-add, mul_left_comm, mul-le-mul_left, le_of_mul-le-mul_left, mul-suc, eq-or-lt_of_le, le_of_lt}
use native.Mathlib.Decide.{dec_le}
use native.Mathlib.Omega.{arith}
use lib.IntN.{ℤ, pos, ◌+ℤ◌, ◌-ℤ◌, ◌*ℤ◌}
use lib.Signed.{◌≤ℤ◌}
use Rattle.exact.specs.Questions.{better, NoBetter, extreme, other}
use Rattle.exact.specs.declared.Question.{Question}
use Rattle.exact.specs.declared.Question.TheVariants.{Greatest, Least}
use Rattle.exact.proofs.Exact.{total, pos_mono, prod, ◌⊕◌, ◌⊗◌, ◌⊝◌, lit, ◌≐◌, ◌≼◌, ◌⇒◌, solve, linear}
use Rattle.exact.proofs.Extremes.{no_better_trans, no_better_antisym, no_better_scale, no_better_cancel, better_left, better_right, better_ind, better_least, extreme_bounds, extreme_least, extreme_met, extreme_cong}
use Rattle.model.specs.Job.{Carriageway, Job}
use Rattle.model.specs.Line.{line_effect}
use Rattle.model.specs.Lanes.{lanes_of, lowest, highest, transverse_at, best_ordinate, deck_of, number_on, own_lanes, other_lanes, unit, in_units, lowest_in, highest_in, ordinate_in, CentreFits}
use Rattle.model.specs.Traffic.{best_in_lane, lane_effect}
use Rattle.model.specs.Arrangements.{Element, element_line, element_effect}
use Rattle.model.specs.declared.Sense.TheVariants.{Raising, Lowering}
use Rattle.model.proofs.Lanes.{lane_count_lem, own_pos, other_range, own_other}
use Rattle.model.proofs.LineLimits.{OneSigned}
use Rattle.model.proofs.Signs.{between_products}
use Rattle.model.proofs.Uniform.{line_bound}

-- ---- a line through ordinates t 0, t 1, .. one step apart
-- r m-ths past ordinate c, times m
abbrev cell : (ℕ → ℤ) → (m c r : ℕ) → ℤ
cell t m c r = (pos m -ℤ pos r) *ℤ t c +ℤ pos r *ℤ t (suc c)

-- x m-ths from the first ordinate, times m
abbrev at : (ℕ → ℤ) → (m x : ℕ) → ℤ
at t m x = cell t m (x / m) (x % m)

inner : (t : ℕ → ℤ) (m c r : ℕ) → r < m → at t m (m * c + r) ≡ cell t m c r
inner t m c r h =
    let p : zero < m = omega arith in
    ap₂ (cell t m) (mul-add-div p c r ∙ ap (λ (x : ℕ). c + x) (div-eq_of_lt h) ∙ add-zero c) (mul-add-mod_self_left m c r ∙ mod-eq_of_lt h)

-- up to the next ordinate, that too
in_cell : (t : ℕ → ℤ) (m c r : ℕ) → zero < m → r ≤ m → at t m (m * c + r) ≡ cell t m c r
in_cell t m c r p h = elim (eq-or-lt_of_le h) [
  | inl e ↦
      let s : m * c + r ≡ m * suc c + 0 = omega (arith, mul-suc m c) in
      ap (at t m) s ∙ inner t m (suc c) 0 p
      ∙ solve 4 (λ m u v w. (m ⊝ lit 0) ⊗ v ⊕ lit 0 ⊗ w ≐ (m ⊝ m) ⊗ u ⊕ m ⊗ v) tt (pos m) (t c) (t (suc c)) (t (suc (suc c)))
      ∙ ap (cell t m c) (sym e)
  | inr l ↦ inner t m c r l
]

-- in n times finer parts
finer : (t : ℕ → ℤ) (m n x : ℕ) → zero < m → zero < n → at t (n * m) (n * x) ≡ pos n *ℤ at t m x
finer t m n x p h =
    let c = x / m in
    let r = x % m in
    ap (at t (n * m)) (ap (λ (y : ℕ). n * y) (sym (div-add-mod x m)) ∙ mul-add n (m * c) r ∙ ap (λ (y : ℕ). y + n * r) (sym (mul_assoc n m c)))
    ∙ in_cell t (n * m) c (n * r) (mul-pos h p) (mul-le-mul_left n (le_of_lt (mod-lt x p)))
    ∙ solve 5 (λ m n r u v. (n ⊗ m ⊝ n ⊗ r) ⊗ u ⊕ n ⊗ r ⊗ v ≐ n ⊗ ((m ⊝ r) ⊗ u ⊕ r ⊗ v)) tt (pos m) (pos n) (pos r) (t c) (t (suc c))

-- a straight line that does not beat v at two places does not beat it between them
straight : (q : Question) (m l r h a b L v : ℤ) → l ≤ℤ r → r ≤ℤ h →
    NoBetter q (((m -ℤ l) *ℤ a +ℤ l *ℤ b) *ℤ L) v → NoBetter q (((m -ℤ h) *ℤ a +ℤ h *ℤ b) *ℤ L) v → NoBetter q (((m -ℤ r) *ℤ a +ℤ r *ℤ b) *ℤ L) v
straight Greatest m l r h a b L v lr rh hl hh = elim (total (pos 0) ((b -ℤ a) *ℤ L)) [
  | inl p ↦ linear 7 (λ m r h a b L v. lit 0 ≼ ((b ⊝ a) ⊗ L ⊝ lit 0) ⊗ (h ⊝ r) ⇒ ((m ⊝ h) ⊗ a ⊕ h ⊗ b) ⊗ L ≼ v ⇒ ((m ⊝ r) ⊗ a ⊕ r ⊗ b) ⊗ L ≼ v) m r h a b L v (omega arith) (prod p rh) hh
  | inr p ↦ linear 7 (λ m r l a b L v. lit 0 ≼ (lit 0 ⊝ (b ⊝ a) ⊗ L) ⊗ (r ⊝ l) ⇒ ((m ⊝ l) ⊗ a ⊕ l ⊗ b) ⊗ L ≼ v ⇒ ((m ⊝ r) ⊗ a ⊕ r ⊗ b) ⊗ L ≼ v) m r l a b L v (omega arith) (prod p lr) hl
]
straight Least m l r h a b L v lr rh hl hh = elim (total (pos 0) ((b -ℤ a) *ℤ L)) [
  | inl p ↦ linear 7 (λ m r l a b L v. lit 0 ≼ ((b ⊝ a) ⊗ L ⊝ lit 0) ⊗ (r ⊝ l) ⇒ v ≼ ((m ⊝ l) ⊗ a ⊕ l ⊗ b) ⊗ L ⇒ v ≼ ((m ⊝ r) ⊗ a ⊕ r ⊗ b) ⊗ L) m r l a b L v (omega arith) (prod p lr) hl
  | inr p ↦ linear 7 (λ m r h a b L v. lit 0 ≼ (lit 0 ⊝ (b ⊝ a) ⊗ L) ⊗ (h ⊝ r) ⇒ v ≼ ((m ⊝ h) ⊗ a ⊕ h ⊗ b) ⊗ L ⇒ v ≼ ((m ⊝ r) ⊗ a ⊕ r ⊗ b) ⊗ L) m r h a b L v (omega arith) (prod p rh) hh
]

-- ---- k-ths against n-ths: x of the one between lo and hi of the other, and the line known at lo, at hi and at the ordinates between
module _ (q : Question) (t : ℕ → ℤ) (g n k lo hi x : ℕ) (L v : ℤ) (g-pos : zero < g) (n_pos : zero < n) (k-pos : zero < k) (low : k * lo ≤ n * x) (high : n * x ≤ k * hi)
    (at-lo : NoBetter q (at t (n * g) lo *ℤ L) v) (at-hi : NoBetter q (at t (n * g) hi *ℤ L) v) (at_Edge : (c : ℕ) → lo ≤ n * g * c → n * g * c ≤ hi → NoBetter q (at t (n * g) (n * g * c) *ℤ L) v) where
  -- on the grid of both
  abbrev m : ℕ
  m = k * (n * g)

  m_pos : zero < m
  m_pos = mul-pos k-pos (mul-pos n_pos g-pos)

  -- x stands r past ordinate c
  abbrev c : ℕ
  c = n * x / m

  abbrev r : ℕ
  r = n * x % m

  here : m * c + r ≡ n * x
  here = div-add-mod (n * x) m

  small : r < m
  small = mod-lt (n * x) m_pos

  -- a whole n-th of its cell that is known
  point : (y l : ℕ) → NoBetter q (at t (n * g) y *ℤ L) v → k * y ≡ m * c + l → l ≤ m → NoBetter q (cell t m c l *ℤ L) (pos k *ℤ v)
  point y l known e h =
      subst (λ (z : ℤ). NoBetter q z (pos k *ℤ v))
      (solve 3 (λ k z L. k ⊗ (z ⊗ L) ≐ k ⊗ z ⊗ L) tt (pos k) (at t (n * g) y) L
      ∙ ap (λ (z : ℤ). z *ℤ L) (sym (finer t (n * g) k y (mul-pos n_pos g-pos) k-pos) ∙ ap (at t m) e ∙ in_cell t m c l m_pos h))
      (no_better_scale q k _ _ known)

  times : {a b : ℕ} → k * a ≤ n * x → n * x ≤ k * b → a ≤ b
  times h l = le_of_mul-le-mul_left (omega arith) k-pos

  -- ordinate c in n-ths
  abbrev edge : ℕ → ℕ
  edge c = n * g * c

  edge_is : (c : ℕ) → k * edge c ≡ m * c
  edge_is c = sym (mul_assoc k (n * g) c)

  -- one to its left, one to its right
  from_left : (l : ℕ) × (l ≤ r) × NoBetter q (cell t m c l *ℤ L) (pos k *ℤ v)
  from_left =
      let s = small in
      elim (dec_le lo (edge c)) [
        | yes h ↦ (0, omega arith, point (edge c) 0 (at_Edge c h (times (omega (arith, edge_is c, here)) high)) (omega (arith, edge_is c)) (omega arith))
        | no h ↦
            let e : m * c ≤ k * lo = omega (arith, edge_is c, mul-le-mul_left {m = edge c} {n = lo} k (omega arith)) in
            (k * lo - m * c, omega (arith, here), point lo (k * lo - m * c) at-lo (omega arith) (omega (arith, here)))
      ]

  from_right : (l : ℕ) × (r ≤ l) × NoBetter q (cell t m c l *ℤ L) (pos k *ℤ v)
  from_right =
      let s = small in
      let next = mul-suc m c in
      elim (dec_le (edge (suc c)) hi) [
        | yes h ↦ (m, omega arith, point (edge (suc c)) m (at_Edge (suc c) (times low (omega (arith, edge_is (suc c), here))) h) (omega (arith, edge_is (suc c))) (omega arith))
        | no h ↦
            let e : k * hi ≤ m * suc c = omega (arith, edge_is (suc c), mul-le-mul_left {m = hi} {n = edge (suc c)} k (omega arith)) in
            (k * hi - m * c, omega (arith, here), point hi (k * hi - m * c) at-hi (omega (arith, here)) (omega arith))
      ]

  centre_bound : NoBetter q (pos n *ℤ (at t (k * g) x *ℤ L)) (pos k *ℤ v)
  centre_bound =
      let a = from_left in
      let b = from_right in
      subst (λ (z : ℤ). NoBetter q z (pos k *ℤ v))
      (ap (λ (z : ℤ). z *ℤ L) (ap (λ (u : ℕ). at t u (n * x)) (sym (mul_left_comm n k g)) ∙ finer t (k * g) n x (mul-pos k-pos g-pos) n_pos)
      ∙ solve 3 (λ n z L. n ⊗ z ⊗ L ≐ n ⊗ (z ⊗ L)) tt (pos n) (at t (k * g) x) L)
      (straight q (pos m) (pos a.0) (pos r) (pos b.0) (t c) (t (suc c)) L (pos k *ℤ v) (pos_mono _ _ a.1) (pos_mono _ _ b.1) a.2 b.2)

-- ---- a lane
module _ (deck : Carriageway) (i : ℕ) (g-pos : zero < deck.g) where
  abbrev n : ℕ
  n = lanes_of deck

  abbrev lo : ℕ
  lo = lowest deck i

  abbrev hi : ℕ
  hi = highest deck i

  -- a lane's best ordinate is known from its limits and the transverse ordinates between
  pub ordinate_bound : (q : Question) (v : ℤ) → lo ≤ hi → NoBetter q (transverse_at deck n lo) v → NoBetter q (transverse_at deck n hi) v →
      ((c : ℕ) → lo ≤ n * deck.g * c → n * deck.g * c ≤ hi → NoBetter q (transverse_at deck n (n * deck.g * c)) v) → NoBetter q (best_ordinate q deck i) v
  unfolding best_ordinate transverse_at
  ordinate_bound q v h at-lo at-hi at_Edge =
      extreme_least q (hi - lo) _ v (λ j l.
      let n_pos = (lane_count_lem deck.width).0 in
      no_better_cancel q n _ v n_pos
      (subst (λ (z : ℤ). NoBetter q (pos n *ℤ z) (pos n *ℤ v)) (one (transverse_at deck n (lo + j)))
      (centre_bound q deck.transverse deck.g n n lo hi (lo + j) (pos 1) v g-pos n_pos n_pos (mul-le-mul_left n (omega arith)) (mul-le-mul_left n (omega arith))
      (given (transverse_at deck n lo) at-lo) (given (transverse_at deck n hi) at-hi) (λ c a b. given (transverse_at deck n (n * deck.g * c)) (at_Edge c a b)))))
    where
      one : (z : ℤ) → z *ℤ pos 1 ≡ z
      one z = solve 1 (λ z. z ⊗ lit 1 ≐ z) tt z

      given : (z : ℤ) → NoBetter q z v → NoBetter q (z *ℤ pos 1) v
      given z h = subst (λ (x : ℤ). NoBetter q x v) (sym (one z)) h

-- ---- a job's lane
-- its ordinate at a centre in n-ths of a cm of its carriageway, in units
pub units_ordinate : (job : Job) (i y : ℕ) → zero < (deck_of job i).g → ordinate_in job i (unit job) (in_units job i y) ≡ pos (other_lanes job i) *ℤ transverse_at (deck_of job i) (own_lanes job i) y
unfolding transverse_at
units_ordinate job i y g-pos =
    let deck = deck_of job i in
    let m = other_lanes job i in
    let n = own_lanes job i in
    ap (λ (u : ℕ). at deck.transverse u (m * y)) (ap (λ (u : ℕ). u * deck.g) (sym (own_other job i)) ∙ mul_assoc m n deck.g) ∙ finer deck.transverse (n * deck.g) m y (mul-pos (own_pos job i) g-pos) (other_range job i).0

-- an element's centre, in k-ths
lane_centre : (job : Job) (i : ℕ) → zero < (deck_of job i).g → (q : Question) (k centre : ℕ) (L v : ℤ) → zero < k → CentreFits job i k centre →
    ((y : ℕ) → lowest_in job i ≤ y → y ≤ highest_in job i → NoBetter q (ordinate_in job i (unit job) (in_units job i y) *ℤ L) v) → NoBetter q (pos (unit job) *ℤ (ordinate_in job i k centre *ℤ L)) (pos k *ℤ v)
unfolding transverse_at
lane_centre job i g-pos q k centre L v k-pos fits known =
    let order : lowest_in job i ≤ highest_in job i = le_of_mul-le-mul_left (omega (arith, fits.from, fits.to)) k-pos in
    subst (λ (z : ℤ). NoBetter q z (pos k *ℤ v))
    (solve 4 (λ m n t L. n ⊗ (t ⊗ (m ⊗ L)) ≐ m ⊗ n ⊗ (t ⊗ L)) tt (pos m) (pos n) (ordinate_in job i k centre) L ∙ ap (λ (u : ℕ). pos u *ℤ (ordinate_in job i k centre *ℤ L)) (own_other job i))
    (centre_bound q deck.transverse deck.g n k (lowest_in job i) (highest_in job i) centre (pos m *ℤ L) v g-pos (own_pos job i) k-pos fits.from fits.to
    (at_own (lowest_in job i) (omega arith) order) (at_own (highest_in job i) order (omega arith)) (λ c a b. at_own (n * deck.g * c) a b))
  where
    deck : Carriageway
    deck = deck_of job i

    m : ℕ
    m = other_lanes job i

    n : ℕ
    n = own_lanes job i

    at_own : (y : ℕ) → lowest_in job i ≤ y → y ≤ highest_in job i → NoBetter q (transverse_at deck n y *ℤ (pos m *ℤ L)) v
    at_own y a b =
        subst (λ (z : ℤ). NoBetter q z v) (ap (λ (t : ℤ). t *ℤ L) (units_ordinate job i y g-pos) ∙ solve 3 (λ m t L. m ⊗ t ⊗ L ≐ t ⊗ (m ⊗ L)) tt (pos m) (transverse_at deck n y) L) (known y a b)

-- either sense's line effect at a centre of the lane, in n-ths of a cm, does not beat the lane's best
pub lane_known : (q : Question) (job : Job) (i : ℕ) (raising lowering : ℤ) (y : ℕ) → lowest_in job i ≤ y → y ≤ highest_in job i →
    NoBetter q (better q (ordinate_in job i (unit job) (in_units job i y) *ℤ raising) (ordinate_in job i (unit job) (in_units job i y) *ℤ lowering)) (best_in_lane q job i raising lowering)
unfolding best_in_lane
lane_known q job i raising lowering y a b =
    let lo = lowest_in job i in
    let t : ℕ → ℤ = λ y. ordinate_in job i (unit job) (in_units job i y) in
    let f : ℕ → ℤ = λ y. better q (t y *ℤ raising) (t y *ℤ lowering) in
    let e : lo + (y - lo) ≡ y = omega arith in
    subst (λ (z : ℕ). NoBetter q (f z) (best_in_lane q job i raising lowering)) e (extreme_bounds q (highest_in job i - lo) (λ j. f (lo + j)) (y - lo) (omega arith))

-- no element in lane i, for any k, beats the lane's best
pub lane_bound : (q : Question) (job : Job) (i k : ℕ) (e : Element) → OneSigned job.line → zero < (deck_of job i).g → zero < k → CentreFits job i k e.centre →
    NoBetter q (pos (unit job) *ℤ element_effect job i k e) (pos (k * k * k) *ℤ lane_effect q job e.kind i)
unfolding element_effect lane_effect
lane_bound q job i k e signed g-pos k-pos fits =
    no_better_trans q _ _ _
    (no_better_scale q n _ _ (between_products q t (element_line job.line k e) (pos (k * k) *ℤ lowering) (pos (k * k) *ℤ raising) (line_bound job.line Lowering k e signed k-pos) (line_bound job.line Raising k e signed k-pos)))
    (better_ind q (λ z. NoBetter q (pos n *ℤ z) (pos (k * k * k) *ℤ best)) (t *ℤ (pos (k * k) *ℤ raising)) (t *ℤ (pos (k * k) *ℤ lowering))
    (of raising (λ y. better_left q (at_y y *ℤ raising) (at_y y *ℤ lowering))) (of lowering (λ y. better_right q (at_y y *ℤ raising) (at_y y *ℤ lowering))))
  where
    n : ℕ
    n = unit job

    raising : ℤ
    raising = line_effect job.line e.kind Raising

    lowering : ℤ
    lowering = line_effect job.line e.kind Lowering

    t : ℤ
    t = ordinate_in job i k e.centre

    best : ℤ
    best = best_in_lane q job i raising lowering

    at_y : ℕ → ℤ
    at_y y = ordinate_in job i n (in_units job i y)

    of : (L : ℤ) → ((y : ℕ) → NoBetter q (at_y y *ℤ L) (better q (at_y y *ℤ raising) (at_y y *ℤ lowering))) → NoBetter q (pos n *ℤ (t *ℤ (pos (k * k) *ℤ L))) (pos (k * k * k) *ℤ best)
    of L one =
        subst (λ (x : ℤ). NoBetter q x (pos (k * k * k) *ℤ best)) (solve 4 (λ k n t l. k ⊗ k ⊗ (n ⊗ (t ⊗ l)) ≐ n ⊗ (t ⊗ (k ⊗ k ⊗ l))) tt (pos k) (pos n) t L)
        (subst (NoBetter q (pos (k * k) *ℤ (pos n *ℤ (t *ℤ L)))) (solve 2 (λ k b. k ⊗ k ⊗ (k ⊗ b) ≐ k ⊗ k ⊗ k ⊗ b) tt (pos k) best)
        (no_better_scale q (k * k) _ _
        (lane_centre job i g-pos q k e.centre L best k-pos fits (λ y a b. no_better_trans q _ _ _ (one y) (lane_known q job i raising lowering y a b)))))

-- ---- a lane's best, by its best ordinates
-- a factor that is not negative keeps the question, one that is not positive turns it
factor_up : (q : Question) (c x v : ℤ) → pos 0 ≤ℤ c → NoBetter q x v → NoBetter q (x *ℤ c) (v *ℤ c)
factor_up Greatest c x v p h = linear 3 (λ c x v. lit 0 ≼ (c ⊝ lit 0) ⊗ (v ⊝ x) ⇒ x ⊗ c ≼ v ⊗ c) c x v (omega arith) (prod p h)
factor_up Least c x v p h = linear 3 (λ c x v. lit 0 ≼ (c ⊝ lit 0) ⊗ (x ⊝ v) ⇒ v ⊗ c ≼ x ⊗ c) c x v (omega arith) (prod p h)

pub factor_down : (q : Question) (c x v : ℤ) → c ≤ℤ pos 0 → NoBetter (other q) x v → NoBetter q (x *ℤ c) (v *ℤ c)
factor_down Greatest c x v p h = linear 3 (λ c x v. lit 0 ≼ (lit 0 ⊝ c) ⊗ (x ⊝ v) ⇒ x ⊗ c ≼ v ⊗ c) c x v (omega arith) (prod p h)
factor_down Least c x v p h = linear 3 (λ c x v. lit 0 ≼ (lit 0 ⊝ c) ⊗ (v ⊝ x) ⇒ v ⊗ c ≼ x ⊗ c) c x v (omega arith) (prod p h)

-- where raising is not below 0 and lowering not above: the raising element at the best ordinate, or the lowering one at the other question's best
best_split : (q : Question) (m : ℕ) (t : ℕ → ℤ) (raising lowering : ℤ) → pos 0 ≤ℤ raising → lowering ≤ℤ pos 0 →
    extreme q m (λ j. better q (t j *ℤ raising) (t j *ℤ lowering)) ≡ better q (extreme q m t *ℤ raising) (extreme (other q) m t *ℤ lowering)
best_split q m t raising lowering up down =
    no_better_antisym q (extreme q m f) (better q (best *ℤ raising) (least *ℤ lowering))
    (extreme_least q m f _ (λ j l. better_least q (t j *ℤ raising) (t j *ℤ lowering) _
    (no_better_trans q _ _ _ (factor_up q raising (t j) best up (extreme_bounds q m t j l)) (better_left q (best *ℤ raising) (least *ℤ lowering)))
    (no_better_trans q _ _ _ (factor_down q lowering (t j) least down (extreme_bounds (other q) m t j l)) (better_right q (best *ℤ raising) (least *ℤ lowering)))))
    (better_least q (best *ℤ raising) (least *ℤ lowering) _
    (let at = extreme_met q m t in subst (λ (z : ℤ). NoBetter q (z *ℤ raising) (extreme q m f)) at.its
    (no_better_trans q _ _ _ (better_left q (t at.who *ℤ raising) (t at.who *ℤ lowering)) (extreme_bounds q m f at.who at.below)))
    (let at = extreme_met (other q) m t in subst (λ (z : ℤ). NoBetter q (z *ℤ lowering) (extreme q m f)) at.its
    (no_better_trans q _ _ _ (better_right q (t at.who *ℤ raising) (t at.who *ℤ lowering)) (extreme_bounds q m f at.who at.below))))
  where
    f : ℕ → ℤ
    f j = better q (t j *ℤ raising) (t j *ℤ lowering)

    best : ℤ
    best = extreme q m t

    least : ℤ
    least = extreme (other q) m t

-- of a lane, with its line effects times the other carriageway's n
pub best_in_lane_split : (q : Question) (job : Job) (i : ℕ) (raising lowering : ℤ) → zero < (deck_of job i).g → let m = pos (other_lanes job i) in pos 0 ≤ℤ (m *ℤ raising) → (m *ℤ lowering) ≤ℤ pos 0 →
    best_in_lane q job i raising lowering ≡ better q (best_ordinate q (deck_of job i) (number_on job i) *ℤ (m *ℤ raising)) (best_ordinate (other q) (deck_of job i) (number_on job i) *ℤ (m *ℤ lowering))
unfolding best_in_lane best_ordinate lowest_in highest_in
best_in_lane_split q job i raising lowering g-pos up down =
    extreme_cong q (highest_in job i - lowest_in job i) _ _ (λ j _. ap₂ (better q) (each j raising) (each j lowering))
    ∙ best_split q (highest_in job i - lowest_in job i) t (pos m *ℤ raising) (pos m *ℤ lowering) up down
  where
    m : ℕ
    m = other_lanes job i

    t : ℕ → ℤ
    t j = transverse_at (deck_of job i) (own_lanes job i) (lowest_in job i + j)

    each : (j : ℕ) (L : ℤ) → ordinate_in job i (unit job) (in_units job i (lowest_in job i + j)) *ℤ L ≡ t j *ℤ (pos m *ℤ L)
    each j L = ap (λ (x : ℤ). x *ℤ L) (units_ordinate job i (lowest_in job i + j) g-pos) ∙ solve 3 (λ m t L. m ⊗ t ⊗ L ≐ t ⊗ (m ⊗ L)) tt (pos m) (t j) L
