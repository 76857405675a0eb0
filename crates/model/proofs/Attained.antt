-- The other half of demand 3: when what is reported keeps the rules and gives its value exactly.
use Rattle.std.specs.Prelude.{if◌then◌else◌}
use mathlib.Core.Path.{◌≡◌, refl, sym, ◌∙◌, ap, ap₂, subst}
use mathlib.Core.Bool.{Bool, true, false, false≢true}
use mathlib.Core.List.{List, ◌++◌}
use Prim.Native.Nat.{ℕ, zero, ◌*◌, ◌<◌}
use native.Mathlib.Nat.{mul-pos, mul_assoc, mul_left_comm, mul-le-mul_left}
use native.Mathlib.Decide.{dec_le}
use native.Mathlib.Omega.{arith}
use lib.IntN.{ℤ, pos, nat_abs, ◌+ℤ◌, ◌*ℤ◌}
use lib.Dec.{ltb}
use lib.ListN.{get_or, get_or-append}
use Rattle.exact.specs.Questions.{for_question, rounded}
use Rattle.exact.specs.Ranges.{count_to}
use Rattle.exact.specs.declared.Question.{Question}
use Rattle.exact.proofs.Exact.{◌⊕◌, ◌⊗◌, lit, ◌≐◌, solve}
use Rattle.exact.proofs.Ranges.{count_cong, length_list_of, get_or_list_of}
use Rattle.exact.proofs.Rounding.{rounded_scale}
use Rattle.model.specs.Job.{InfluenceLine, Job, Live, no_traffic, normal, overload, HasTraffic}
use Rattle.model.specs.Line.{Kind, HN, HO, axle, best_pair, patch_byte, patch_bytes, uniform_part, line_effect}
use Rattle.model.specs.Lanes.{bit, lanes, own_lanes, other_lanes, unit, in_units, ordinate_in, CentreFits}
use Rattle.model.specs.Traffic.{lane_effect, sum_on, is_additional, best_sum, effect_of, traffic_value}
use Rattle.model.specs.Arrangements.{Element, Load, unloaded, element, Arrangement, element_line, element_effect, carries, load_effect, lanes_under, effect_under, sum_of, arranged, KindsFit, FactorsFit, Lawful}
use Rattle.model.specs.Answered.{lane_at, factor_at, position_of, reported_element, reported_load, reported, reported_effect, PositionRight, TrafficRight, traffic_in, counted_traffic}
use Rattle.model.specs.Placements.{BestCentre, EntryRight, entry_is, placed_lanes, placed_under, placed_sum}
use Rattle.model.specs.declared.Sense.{Sense}
use Rattle.model.specs.declared.Entry.{Entry}
use Rattle.model.specs.declared.Entry.TheVariants.{Unloaded, Hn, Ho}
use Rattle.model.specs.declared.Lane.{Lane}
use Rattle.model.specs.declared.Placement.{Placement}
use Rattle.model.specs.declared.Extreme.{Extreme}
use Rattle.model.specs.declared.Account.{Account}
use Rattle.model.proofs.Lanes.{unit_pos, own_other}
use Rattle.model.proofs.Signs.{no_traffic_lem}
use Rattle.model.proofs.Pair.{pair_at_lem}
use Rattle.model.proofs.Uniform.{loaded_parts_given}
use Rattle.model.proofs.Assignments.{assigned_cong}
use Rattle.model.proofs.LiveSums.{sum_on_cong, sum_on_scale}
use Rattle.model.proofs.Unbeaten.{best_under, best_of}

-- ---- any arrangement
-- one whose every lane gives the lane's best, and whose bests together are the best sum, gives the traffic value
pub attains : (q : Question) (job : Job) (live : Live) (w : Arrangement) → zero < job.deck.g →
    ((kind : Kind) (i : ℕ) → i < lanes job → carries kind (w.load i) ≡ true → load_effect job i (unit job) (w.load i) ≡ pos (unit job * unit job) *ℤ lane_effect q job kind i) →
    best_of q job live w ≡ best_sum q job live → arranged q job live (unit job) w ≡ traffic_value q job live
unfolding arranged traffic_value effect_of sum_of
attains q job live w g-pos each best =
    ap₂ (rounded q) top bottom ∙ rounded_scale q (n * n) (pos 3 *ℤ (pos y *ℤ best_sum q job live)) (800000 * (n * g)) (mul-pos n_pos n_pos) (mul-pos (omega arith) (mul-pos n_pos g-pos))
  where
    n : ℕ
    n = unit job

    g : ℕ
    g = job.deck.g

    y : ℕ
    y = job.dynamic q

    n_pos : zero < n
    n_pos = unit_pos job

    lane : (kind : Kind) (i : ℕ) → i < lanes job → effect_under job n kind w i ≡ pos (n * n) *ℤ best_under q job kind w i
    lane kind i h = go (carries kind (w.load i)) (each kind i h)
      where
        go : (t : Bool) → (t ≡ true → load_effect job i n (w.load i) ≡ pos (n * n) *ℤ lane_effect q job kind i) →
            (if t then load_effect job i n (w.load i) else pos 0) ≡ pos (n * n) *ℤ (if t then lane_effect q job kind i else pos 0)
        go true h = h refl
        go false h = solve 1 (λ c. lit 0 ≐ c ⊗ lit 0) tt (pos (n * n))

    top : pos 3 *ℤ (pos y *ℤ sum_of job live n w) ≡ pos (n * n) *ℤ (pos 3 *ℤ (pos y *ℤ best_sum q job live))
    top =
        ap (λ (x : ℤ). pos 3 *ℤ (pos y *ℤ x)) (sum_on_cong job.profile (lanes job) live (lane HN) (lane HO) refl (λ i _. refl) ∙ sum_on_scale job.profile (lanes job) (best_under q job HN w) (best_under q job HO w) (lanes_under job HN w) w.factor live (pos (n * n)))
        ∙ solve 3 (λ y c s. lit 3 ⊗ (y ⊗ (c ⊗ s)) ≐ c ⊗ (lit 3 ⊗ (y ⊗ s))) tt (pos y) (pos (n * n)) (best_of q job live w)
        ∙ ap (λ (x : ℤ). pos (n * n) *ℤ (pos 3 *ℤ (pos y *ℤ x))) best

    bottom : 800000 * (n * n * (n * g)) ≡ n * n * (800000 * (n * g))
    bottom = ap nat_abs (solve 3 (λ m n g. m ⊗ (n ⊗ n ⊗ (n ⊗ g)) ≐ n ⊗ n ⊗ (m ⊗ (n ⊗ g))) tt (pos 800000) (pos n) (pos g))

-- ---- the reported placement
-- a buffer that starts with the patch bytes has each piece's
pub patch_byte_lem : (line : InfluenceLine) (rest : List ℕ) (i : ℕ) → i < line.pieces → get_or (patch_bytes line ++ rest) i 0 ≡ patch_byte (line.piece i)
unfolding patch_bytes
patch_byte_lem line rest i h =
    let f : ℕ → ℕ = λ i. patch_byte (line.piece i) in
    get_or-append (patch_bytes line) rest 0 i (rw (length_list_of line.pieces f) h) ∙ get_or_list_of line.pieces f i 0 h

-- what an entry stands for carries what the entry says
carried : (kind : Kind) (job : Job) (patch : List ℕ) (a : Account) (e : Entry) (centre : ℕ) → carries kind (reported_load job patch a e centre) ≡ entry_is kind e
carried kind job patch a Unloaded centre = refl
carried HN job patch a (Hn sense) centre = refl
carried HN job patch a (Ho sense) centre = refl
carried HO job patch a (Hn sense) centre = refl
carried HO job patch a (Ho sense) centre = refl

module _ (q : Question) (job : Job) (patch rest : List ℕ) (a : Account) (bytes : patch ≡ patch_bytes job.line ++ rest) (positions : (sense : Sense) → PositionRight job.line sense (position_of a sense)) where
  abbrev n : ℕ
  n = unit job

  -- a reported element has its sense's line effect
  pub line_given : (kind : Kind) (sense : Sense) (centre : ℕ) → element_line job.line n (reported_element job patch a kind sense centre) ≡ pos (n * n) *ℤ line_effect job.line kind sense
  unfolding element_line line_effect
  line_given kind sense centre =
      let line = job.line in
      let at = position_of a sense in
      ap₂ ◌+ℤ◌ (loaded_parts_given line sense n (reported_element job patch a kind sense centre) patch (λ i h. ap (λ (l : List ℕ). get_or l i 0) bytes ∙ patch_byte_lem line rest i h) (λ i j. refl))
      (ap (λ (x : ℤ). axle kind *ℤ (pos n *ℤ x)) (pair_at_lem line n at.station at.side (unit_pos job) ∙ ap (λ (x : ℤ). pos n *ℤ x) (positions sense).best))
      ∙ solve 4 (λ k u a m. k ⊗ k ⊗ u ⊕ a ⊗ (k ⊗ (k ⊗ m)) ≐ k ⊗ k ⊗ (u ⊕ a ⊗ m)) tt (pos n) (uniform_part line sense) (axle kind) (best_pair line sense)

  -- so at a best centre it gives the lane's best
  pub element_given : (kind : Kind) (sense : Sense) (i centre : ℕ) → BestCentre q job kind sense i centre → element_effect job i n (reported_element job patch a kind sense (in_units job i centre)) ≡ pos (n * n) *ℤ lane_effect q job kind i
  unfolding element_effect
  element_given kind sense i centre at =
      let t = ordinate_in job i n (in_units job i centre) in
      ap (λ (x : ℤ). t *ℤ x) (line_given kind sense (in_units job i centre))
      ∙ solve 3 (λ t c l. t ⊗ (c ⊗ l) ≐ c ⊗ (t ⊗ l)) tt t (pos (n * n)) (line_effect job.line kind sense)
      ∙ ap (λ (x : ℤ). pos (n * n) *ℤ x) at.best

  -- its centre keeps its distance
  centre_fits : (kind : Kind) (sense : Sense) (i centre : ℕ) → BestCentre q job kind sense i centre → CentreFits job i n (in_units job i centre)
  centre_fits kind sense i centre at =
      let turn : own_lanes job i * in_units job i centre ≡ n * centre = mul_left_comm (own_lanes job i) (other_lanes job i) centre ∙ sym (mul_assoc (other_lanes job i) (own_lanes job i) centre) ∙ ap (λ (u : ℕ). u * centre) (own_other job i) in
      record { from = omega (arith, mul-le-mul_left n at.low); to = omega (arith, mul-le-mul_left n at.high) }

  module _ (p : Placement) (entries : (i : ℕ) → i < lanes job → EntryRight q job i (lane_at p i).entry (lane_at p i).centre) where
    -- the reported arrangement carries what the entries say
    carries_entry : (kind : Kind) (i : ℕ) → carries kind ((reported job patch a p).load i) ≡ entry_is kind (lane_at p i).entry
    unfolding reported
    carries_entry kind i = carried kind job patch a (lane_at p i).entry (in_units job i (lane_at p i).centre)

    -- it keeps the rules of a live kind that has as many lanes under each kind
    pub reported_lawful : (live : Live) → KindsFit job.profile live (placed_lanes job HN p) (placed_lanes job HO p) → FactorsFit live (lanes job) (λ i. entry_is HN (lane_at p i).entry) (factor_at p) → Lawful job live n (reported job patch a p)
    unfolding reported
    reported_lawful live kinds factors = record {
      fine = unit_pos job;
      kinds = subst (λ (m : ℕ). KindsFit job.profile live m (lanes_under job HO (reported job patch a p))) (same HN) (subst (KindsFit job.profile live (placed_lanes job HN p)) (same HO) kinds);
      centres = λ i e h is. go i (lane_at p i).entry (lane_at p i).centre (entries i h) e is;
      factors = record { lanes = λ i h. factors.lanes i h ∙ ap (is_additional live) (sym (carries_entry HN i)); counts = factors.counts };
    }
      where
        same : (kind : Kind) → placed_lanes job kind p ≡ lanes_under job kind (reported job patch a p)
        same kind = count_cong (lanes job) _ _ (λ i h. sym (carries_entry kind i))

        fits : (i : ℕ) (x e : Element) → element x ≡ element e → CentreFits job i n x.centre → CentreFits job i n e.centre
        fits i x e is h = subst (λ (l : Load). elim l as (λ _. Type 0) [ unloaded ↦ ⊥ | element e ↦ CentreFits job i n e.centre ]) is h

        go : (i : ℕ) (entry : Entry) (centre : ℕ) → EntryRight q job i entry centre → (e : Element) → reported_load job patch a entry (in_units job i centre) ≡ element e → CentreFits job i n e.centre
        go i Unloaded centre r e is = absurd (subst (λ (l : Load). elim l as (λ _. Type 0) [ unloaded ↦ Unit {0} | element e ↦ ⊥ ]) is tt)
        go i (Hn sense) centre r e is = fits i _ e is (centre_fits HN sense i centre r)
        go i (Ho sense) centre r e is = fits i _ e is (centre_fits HO sense i centre r)

    -- and where its sum is the best sum it gives the traffic value
    pub reported_gives : (live : Live) → zero < job.deck.g → placed_sum q job live p ≡ best_sum q job live → reported_effect q job patch a live p ≡ traffic_value q job live
    unfolding reported
    reported_gives live g-pos best =
        attains q job live (reported job patch a p) g-pos (λ kind i h t. go kind i (lane_at p i).entry (lane_at p i).centre (entries i h) (sym (carries_entry kind i) ∙ t))
        (sum_on_cong job.profile (lanes job) live (same HN) (same HO) (count_cong (lanes job) _ _ (λ i h. carries_entry HN i)) (λ i _. refl) ∙ best)
      where
        same : (kind : Kind) (i : ℕ) → i < lanes job → best_under q job kind (reported job patch a p) i ≡ placed_under q job kind p i
        same kind i h = ap (λ (t : Bool). if t then lane_effect q job kind i else pos 0) (carries_entry kind i)

        go : (kind : Kind) (i : ℕ) (entry : Entry) (centre : ℕ) → EntryRight q job i entry centre → entry_is kind entry ≡ true →
            load_effect job i n (reported_load job patch a entry (in_units job i centre)) ≡ pos (n * n) *ℤ lane_effect q job kind i
        go kind i Unloaded centre r t = absurd (false≢true t)
        go HN i (Hn sense) centre r t = element_given HN sense i centre r
        go HN i (Ho sense) centre r t = absurd (false≢true t)
        go HO i (Hn sense) centre r t = absurd (false≢true t)
        go HO i (Ho sense) centre r t = element_given HO sense i centre r

-- ---- a placement by its set of HN lanes, the test of its HO lanes and its factors
module _ (q : Question) (job : Job) (live : Live) (p : Placement) (s : ℕ) (over : ℕ → Bool) (f : ℕ → ℕ)
    (lanes-hn : (i : ℕ) → i < lanes job → entry_is HN (lane_at p i).entry ≡ bit s i) (lanes-ho : (i : ℕ) → i < lanes job → entry_is HO (lane_at p i).entry ≡ over i) (factors : (i : ℕ) → i < lanes job → factor_at p i ≡ f i) where
  pub placed_lanes_lem : (placed_lanes job HN p ≡ count_to (lanes job) (bit s)) × (placed_lanes job HO p ≡ count_to (lanes job) over)
  placed_lanes_lem = (count_cong (lanes job) _ _ lanes-hn, count_cong (lanes job) _ _ lanes-ho)

  pub placed_sum_lem : placed_sum q job live p ≡ sum_on job.profile live (lanes job) (λ i. if bit s i then lane_effect q job HN i else pos 0) (λ i. if over i then lane_effect q job HO i else pos 0) (count_to (lanes job) (bit s)) f
  placed_sum_lem =
      sum_on_cong job.profile (lanes job) live (λ i h. ap (λ (t : Bool). if t then lane_effect q job HN i else pos 0) (lanes-hn i h)) (λ i h. ap (λ (t : Bool). if t then lane_effect q job HO i else pos 0) (lanes-ho i h))
      placed_lanes_lem.0 factors

  pub placed_factors : FactorsFit live (lanes job) (bit s) f → FactorsFit live (lanes job) (λ i. entry_is HN (lane_at p i).entry) (factor_at p)
  placed_factors fit = record {
    lanes = λ i h. ap (ltb 0) (factors i h) ∙ fit.lanes i h ∙ ap (is_additional live) (sym (lanes-hn i h));
    counts = assigned_cong (lanes job) _ f factors ∙ fit.counts;
  }

-- ---- what a lane shows
-- a lane that is not under HN is not additional
pub never_additional : (live : Live) → is_additional live false ≡ false
never_additional no_traffic = refl
never_additional normal = refl
never_additional overload = refl

-- an account's lane shows a factor exactly where it is additional: any other lane shows 0
pub shows : {q : Question} {job : Job} {patch : List ℕ} {a : Account} {live : Live} {x : Extreme} → TrafficRight job patch a q live x → (i : ℕ) → ltb 0 (factor_at x.placement i) ≡ is_additional live (entry_is HN (lane_at x.placement i).entry)
unfolding reported
shows {q} {job} {patch} {a} {live} {x} r i = elim (dec_le (lanes job) i) [
  | yes l ↦ let e = r.idle i (r.on_deck i l) in ap (λ (y : Lane). ltb 0 y.factor) e ∙ sym (never_additional live) ∙ sym (ap (λ (y : Lane). is_additional live (entry_is HN y.entry)) e)
  | no l ↦ r.lawful.factors.lanes i (omega arith) ∙ ap (is_additional live) (carried HN job patch a (lane_at x.placement i).entry (in_units job i (lane_at x.placement i).centre))
]

-- ---- a state
-- the traffic counted for a row is its value, where the reported placement gives it
pub counted_given : (q : Question) (job : Job) (patch : List ℕ) (a : Account) (unladen : Bool) (live : Live) →
    (HasTraffic live → reported_effect q job patch a live (for_question q (traffic_in a live)).placement ≡ traffic_value q job live) → counted_traffic q job patch a unladen live ≡ (if unladen then pos 0 else traffic_value q job live)
counted_given q job patch a true live given = refl
counted_given q job patch a false no_traffic given = sym (no_traffic_lem q job)
counted_given q job patch a false normal given = given tt
counted_given q job patch a false overload given = given tt
