-- 0 does not beat a best value, for no load gives 0: no greatest is below 0 and no least above.
use Rattle.std.specs.Prelude.{if◌then◌else◌, None}
use mathlib.Core.Path.{◌≡◌, refl, ◌∙◌, ap, ap₂, subst}
use mathlib.Core.Logic.{inl, inr}
use mathlib.Core.Bool.{Bool, true, false}
use mathlib.Core.List.{List}
use Prim.Native.Nat.{ℕ, zero, suc, ◌+◌, ◌-◌, ◌*◌, ◌^◌, ◌≤◌, ◌<◌}
use native.Mathlib.Nat.{div-one, zero-div, mul-pos}
use native.Mathlib.Omega.{arith}
use lib.Count.{ones}
use lib.Dec.{eqb}
use lib.IntN.{ℤ, pos, ◌+ℤ◌, ◌*ℤ◌}
use lib.Signed.{◌≤ℤ◌, lt_z}
use borrow.Author.Tests.{le-ltb}
use Rattle.exact.specs.Questions.{better, NoBetter, extreme, rounded}
use Rattle.exact.specs.Rounding.{floor_div, ceil_div}
use Rattle.exact.specs.declared.Question.{Question}
use Rattle.exact.specs.declared.Question.TheVariants.{Greatest, Least}
use Rattle.exact.proofs.Order.{le_refl, le_trans, lt→le, mul_mono, mul_flip, total}
use Rattle.exact.proofs.Tests.{lt_z_true, lt_z_false}
use Rattle.exact.proofs.Ring.{◌⊕◌, ◌⊗◌, ◌⊝◌, lit, ◌≐◌, solve}
use Rattle.exact.proofs.Extremes.{no_better_refl, no_better_of_eq, no_better_trans, no_better_add, no_better_scale, better_left, better_right, extreme_bounds}
use Rattle.exact.proofs.Ranges.{sum_mono, sum_zero}
use Rattle.exact.proofs.Rounding.{rounded_mono}
use Rattle.model.specs.Job.{Profile, highway, rural, Piece, InfluenceLine, Job, Live, no_traffic, normal, overload}
use Rattle.model.specs.Decode.{decode}
use Rattle.model.specs.Refusals.{job_verdict}
use Rattle.model.specs.Line.{Kind, HN, HO, axle, axle_spacing, ordinate, pair, end_sum, patch_byte, loaded_byte, sought, piece_load, uniform_part, station, best_pair, line_effect}
use Rattle.model.specs.Lanes.{lanes, unit, in_units, sum_unit, lowest_in, highest_in, ordinate_in, reduction_for}
use Rattle.model.specs.Traffic.{best_on, best_in_lane, lane_effect, set_sum, best_normal, overload_sum, best_overload, best_sum, effect_of, traffic_value}
use Rattle.model.specs.declared.Side.{Side}
use Rattle.model.specs.declared.Side.TheVariants.{Left, Right}
use Rattle.model.specs.declared.Sense.{Sense}
use Rattle.model.specs.declared.Sense.TheVariants.{Raising, Lowering}
use Rattle.model.proofs.Accepted.{accepted_spaced}
use Rattle.model.proofs.Lanes.{lanes_few, unit_pos}
use Rattle.model.proofs.Assignments.{assigned_none, overload_unbeaten}

-- ---- the pair
-- at and past the line's right end the ordinate is 0, from the left only past it
pub off_right : (line : InfluenceLine) (m : ℕ) → line.pieces ≤ m → ordinate line 1 (pos m) Right ≡ pos 0
unfolding ordinate
off_right line m h = rw (div-one m, le-ltb m line.pieces h) refl

pub off_left : (line : InfluenceLine) (m : ℕ) → line.pieces < m → ordinate line 1 (pos m) Left ≡ pos 0
unfolding ordinate
off_left line zero h = refl
off_left line (suc m) h = rw (div-one m, le-ltb m line.pieces (omega arith)) refl

-- no station beats the best pair, on either side
pub station_bound : (line : InfluenceLine) (sense : Sense) (s : ℕ) (side : Side) → s ≤ line.pieces + axle_spacing line → NoBetter (sought sense) (pair line 1 (station line s) side) (best_pair line sense)
unfolding best_pair
station_bound line sense s side h =
    let q = sought sense in
    let f : ℕ → ℤ = λ s. better q (pair line 1 (station line s) Left) (pair line 1 (station line s) Right) in
    no_better_trans q _ (f s) _ (one side) (extreme_bounds q (line.pieces + axle_spacing line) f s h)
  where
    one : (side : Side) → NoBetter (sought sense) (pair line 1 (station line s) side) (better (sought sense) (pair line 1 (station line s) Left) (pair line 1 (station line s) Right))
    one Left = better_left (sought sense) (pair line 1 (station line s) Left) (pair line 1 (station line s) Right)
    one Right = better_right (sought sense) (pair line 1 (station line s) Left) (pair line 1 (station line s) Right)

-- nor does a pair off the line: such is the last station, from the right
pub pair_zero : (line : InfluenceLine) (sense : Sense) → NoBetter (sought sense) (pos 0) (best_pair line sense)
unfolding pair
pair_zero line sense = subst (λ (x : ℤ). NoBetter (sought sense) x (best_pair line sense)) off (station_bound line sense (line.pieces + axle_spacing line) Right (omega arith))
  where
    here : station line (line.pieces + axle_spacing line) ≡ pos line.pieces
    here = solve 2 (λ n d. n ⊕ d ⊝ d ≐ n) tt (pos line.pieces) (pos (axle_spacing line))

    off : pair line 1 (station line (line.pieces + axle_spacing line)) Right ≡ pos 0
    off =
        ap (λ (z : ℤ). pair line 1 z Right) here
        ∙ ap₂ ◌+ℤ◌ (off_right line line.pieces (omega arith)) (off_right line (line.pieces + 1 * axle_spacing line) (omega arith))

-- ---- the uniform load
-- a piece's ordinate sum where an element of the sense loads it, else 0
abbrev pub loaded_sum : Sense → Piece → ℤ
loaded_sum sense p = if eqb (patch_byte p) (loaded_byte sense) then end_sum p else pos 0

-- it is beaten neither by the whole piece nor by nothing
pub loaded_bound : (sense : Sense) (p : Piece) → NoBetter (sought sense) (end_sum p) (loaded_sum sense p) × NoBetter (sought sense) (pos 0) (loaded_sum sense p)
unfolding patch_byte
loaded_bound sense p = go sense (lt_z (pos 0) (end_sum p)) (lt_z (end_sum p) (pos 0)) refl refl
  where
    loaded : Sense → Bool → Bool → ℤ
    loaded sense b c = if eqb (if b then 1 else (if c then 2 else 0)) (loaded_byte sense) then end_sum p else pos 0

    go : (sense : Sense) (b c : Bool) → lt_z (pos 0) (end_sum p) ≡ b → lt_z (end_sum p) (pos 0) ≡ c → NoBetter (sought sense) (end_sum p) (loaded sense b c) × NoBetter (sought sense) (pos 0) (loaded sense b c)
    go Raising true c e f = (le_refl (end_sum p), lt→le (lt_z_true (pos 0) (end_sum p) e))
    go Raising false true e f = (lt_z_false (pos 0) (end_sum p) e, le_refl (pos 0))
    go Raising false false e f = (lt_z_false (pos 0) (end_sum p) e, le_refl (pos 0))
    go Lowering true c e f = (lt→le (lt_z_true (pos 0) (end_sum p) e), le_refl (pos 0))
    go Lowering false true e f = (le_refl (end_sum p), lt→le (lt_z_true (end_sum p) (pos 0) f))
    go Lowering false false e f = (lt_z_false (end_sum p) (pos 0) f, le_refl (pos 0))

-- what 0 does not beat it does not beat times a number
pub multiple_zero : (q : Question) (c : ℕ) (v : ℤ) → NoBetter q (pos 0) v → NoBetter q (pos 0) (pos c *ℤ v)
multiple_zero q c v h = subst (λ (x : ℤ). NoBetter q x (pos c *ℤ v)) (solve 1 (λ c. c ⊗ lit 0 ≐ lit 0) tt (pos c)) (no_better_scale q c (pos 0) v h)

-- a sense's load of a piece is not beaten by none, and so that of its whole pieces
piece_zero : (sense : Sense) (h : ℕ) (p : Piece) → NoBetter (sought sense) (pos 0) (piece_load sense h p)
unfolding piece_load
piece_zero sense h p = multiple_zero (sought sense) (7 * h) (loaded_sum sense p) (loaded_bound sense p).1

pub uniform_zero : (line : InfluenceLine) (sense : Sense) → NoBetter (sought sense) (pos 0) (uniform_part line sense)
unfolding uniform_part
uniform_zero line sense =
    subst (λ (x : ℤ). NoBetter (sought sense) x (uniform_part line sense)) (sum_zero line.pieces (λ i. pos 0) (λ i l. refl))
    (sum_mono (sought sense) line.pieces (λ i. pos 0) _ (λ i l. piece_zero sense line.h (line.piece i)))

-- ---- an element
-- an axle's load is not negative
pub axle_scale : (q : Question) (kind : Kind) (x v : ℤ) → NoBetter q x v → NoBetter q (axle kind *ℤ x) (axle kind *ℤ v)
axle_scale q HN x v h = no_better_scale q _ x v h
axle_scale q HO x v h = no_better_scale q _ x v h

-- a sense's line effect is not beaten by no load
pub line_zero : (line : InfluenceLine) (kind : Kind) (sense : Sense) → NoBetter (sought sense) (pos 0) (line_effect line kind sense)
unfolding line_effect
line_zero line kind sense =
    let q = sought sense in
    no_better_trans q (pos 0) (pos 0 +ℤ axle kind *ℤ pos 0) _ (no_better_of_eq q (none kind))
    (no_better_add q _ _ _ _ (uniform_zero line sense) (axle_scale q kind (pos 0) (best_pair line sense) (pair_zero line sense)))
  where
    none : (kind : Kind) → pos 0 ≡ pos 0 +ℤ axle kind *ℤ pos 0
    none HN = refl
    none HO = refl

-- ---- a lane
-- an ordinate times what lies between low and high does not beat the better of its two products
pub between_products : (q : Question) (t x low high : ℤ) → low ≤ℤ x → x ≤ℤ high → NoBetter q (t *ℤ x) (better q (t *ℤ high) (t *ℤ low))
between_products Greatest t x low high l r = elim (total (pos 0) t) [
  | inl p ↦ le_trans (mul_mono p r) (better_left Greatest (t *ℤ high) (t *ℤ low))
  | inr p ↦ le_trans (mul_flip p l) (better_right Greatest (t *ℤ high) (t *ℤ low))
]
between_products Least t x low high l r = elim (total (pos 0) t) [
  | inl p ↦ le_trans (better_right Least (t *ℤ high) (t *ℤ low)) (mul_mono p l)
  | inr p ↦ le_trans (better_left Least (t *ℤ high) (t *ℤ low)) (mul_flip p r)
]

-- a lane's best is not beaten by leaving it unloaded
pub lane_zero : (q : Question) (job : Job) (kind : Kind) (i : ℕ) → NoBetter q (pos 0) (lane_effect q job kind i)
unfolding lane_effect best_in_lane
lane_zero q job kind i =
    let raising = line_effect job.line kind Raising in
    let lowering = line_effect job.line kind Lowering in
    let t : ℕ → ℤ = λ j. ordinate_in job i (unit job) (in_units job i (lowest_in job i + j)) in
    let f : ℕ → ℤ = λ j. better q (t j *ℤ raising) (t j *ℤ lowering) in
    no_better_trans q (pos 0) (f 0) _
    (subst (λ (x : ℤ). NoBetter q x (f 0)) (solve 1 (λ t. t ⊗ lit 0 ≐ lit 0) tt (t 0))
    (between_products q (t 0) (pos 0) lowering raising (line_zero job.line kind Lowering) (line_zero job.line kind Raising)))
    (extreme_bounds q (highest_in job i - lowest_in job i) f 0 (omega arith))

-- ---- sets
-- the empty set gives 0
pub empty_sum : (r : ℕ → ℤ) (n : ℕ) (hn : ℕ → ℤ) → set_sum r n hn 0 ≡ pos 0
unfolding set_sum
empty_sum r n hn = ap (λ (x : ℤ). r (ones 0) *ℤ x) (sum_zero n _ (λ i l. rw (zero-div (2 ^ i)) refl)) ∙ solve 1 (λ r. r ⊗ lit 0 ≐ lit 0) tt (r (ones 0))

-- HO alone gives 20 of its own
pub alone_sum : (n : ℕ) (hn : ℕ → ℤ) (ho : ℤ) (f : ℕ → ℕ) → ((i : ℕ) → i < n → f i ≡ 0) → overload_sum n hn ho f ≡ pos 20 *ℤ ho
unfolding overload_sum
alone_sum n hn ho f zeros =
    ap (λ (x : ℤ). pos 20 *ℤ ho +ℤ x) (sum_zero n _ (λ i h. ap (λ (k : ℕ). pos k *ℤ hn i) (zeros i h) ∙ solve 1 (λ x. lit 0 ⊗ x ≐ lit 0) tt (hn i)))
    ∙ solve 1 (λ x. x ⊕ lit 0 ≐ x) tt (pos 20 *ℤ ho)

-- no best of n lanes is beaten by 0
on_zero : (q : Question) (p : Profile) (live : Live) (n : ℕ) (hn ho : ℕ → ℤ) → 0 < n → NoBetter q (pos 0) (ho 0) → NoBetter q (pos 0) (best_on q p live n hn ho)
unfolding best_on best_normal
on_zero q p no_traffic n hn ho some h = no_better_refl q (pos 0)
on_zero q p normal n hn ho some h =
    let r = reduction_for p in
    subst (λ (x : ℤ). NoBetter q x (extreme q (2 ^ n - 1) (set_sum r n hn))) (empty_sum r n hn) (extreme_bounds q (2 ^ n - 1) (set_sum r n hn) 0 (omega arith))
on_zero q highway overload n hn ho some h =
    no_better_trans q (pos 0) (pos 20 *ℤ ho 0) _ (multiple_zero q 20 (ho 0) h)
    (subst (λ (x : ℤ). NoBetter q x (best_overload q n hn ho)) (alone_sum n hn (ho 0) (λ i. 0) (λ i _. refl))
    (overload_unbeaten q n hn ho 0 (λ i. 0) some refl (assigned_none n (λ i. 0) (λ i _. refl))))
on_zero q rural overload n hn ho some h = no_better_refl q (pos 0)

-- nor is a job's best sum
pub sum_zero_bound : (q : Question) (job : Job) (live : Live) → NoBetter q (pos 0) (best_sum q job live)
unfolding best_sum
sum_zero_bound q job live = on_zero q job.profile live (lanes job) (lane_effect q job HN) (lane_effect q job HO) (lanes_few job).0 (lane_zero q job HO 0)

-- ---- the value
rounded_zero : (q : Question) (d : ℕ) → rounded q (pos 0) d ≡ pos 0
unfolding floor_div ceil_div
rounded_zero Greatest d = rw (zero-div d) refl
rounded_zero Least d = rw (zero-div d) refl

-- without traffic the value is 0
pub no_traffic_lem : (q : Question) (job : Job) → traffic_value q job no_traffic ≡ pos 0
unfolding traffic_value effect_of best_sum best_on
no_traffic_lem q job =
    let d = 800000 * sum_unit job (unit job) in
    ap (λ (x : ℤ). rounded q (pos 3 *ℤ x) d) (solve 1 (λ y. y ⊗ lit 0 ≐ lit 0) tt (pos (job.dynamic q))) ∙ rounded_zero q d

-- 0 beats no traffic value
pub traffic_zero : (q : Question) (job : Job) (live : Live) → zero < job.deck.g → NoBetter q (pos 0) (traffic_value q job live)
unfolding traffic_value effect_of
traffic_zero q job live g =
    let d = sum_unit job (unit job) in
    let x = best_sum q job live in
    subst (λ (z : ℤ). NoBetter q z (traffic_value q job live)) (rounded_zero q (800000 * d))
    (rounded_mono q (pos 0) (pos 3 *ℤ (pos (job.dynamic q) *ℤ x)) (800000 * d) (mul-pos (omega arith) (mul-pos (unit_pos job) g))
    (multiple_zero q 3 _ (multiple_zero q (job.dynamic q) x (sum_zero_bound q job live))))

-- so of an accepted job no greatest traffic value is below 0, and no least above
pub zero_no_better : (b : List ℕ) → job_verdict b ≡ None → (q : Question) (live : Live) → NoBetter q (pos 0) (traffic_value q (decode b) live)
zero_no_better b e q live = traffic_zero q (decode b) live (accepted_spaced b e).0
