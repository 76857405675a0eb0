-- The placement of a loading: its lanes carry what the loading says, and in a job it is the live kind's best.
use Rattle.std.specs.Prelude.{if◌then◌else◌}
use mathlib.Core.Path.{◌≡◌, refl, sym, ◌∙◌, ap, ap₂, subst}
use mathlib.Core.Logic.{◌⊎◌, inl, inr}
use mathlib.Core.Bool.{Bool, true, false}
use mathlib.Core.List.{List, [], ◌∷◌}
use Prim.Native.Nat.{ℕ, zero, suc, ◌+◌, ◌*◌, ◌^◌, ◌≤◌, ◌<◌}
use native.Mathlib.Nat.{pow-suc, lt_of_lt_of_le}
use native.Mathlib.Decide.{dec_le}
use native.Mathlib.Omega.{arith}
use lib.IntN.{ℤ}
use lib.Dec.{ltb, eqb}
use lib.ListN.{length, get_or}
use lib.Pow.{pow_mono}
use borrow.Author.Tests.{ltb-true, ltb-false, eqb-true, ne_eqb}
use Rattle.exact.specs.Ranges.{count_to}
use Rattle.exact.specs.declared.Question.{Question}
use Rattle.exact.proofs.Bridge.{by_test}
use Rattle.model.specs.Job.{Job, Live}
use Rattle.model.specs.Line.{HN, HO}
use Rattle.model.specs.Lanes.{bit, lanes}
use Rattle.model.specs.Traffic.{is_additional, best_sum, effect_of, traffic_value}
use Rattle.model.specs.Arrangements.{KindsFit}
use Rattle.model.specs.Answered.{empty_lane, entry_bit, set_of, lane_at}
use Rattle.model.specs.Placements.{EntryRight, entry_is, placed_lanes}
use Rattle.model.specs.declared.Entry.{Entry}
use Rattle.model.specs.declared.Entry.TheVariants.{Unloaded, Hn, Ho}
use Rattle.model.specs.declared.Lane.{Lane}
use Rattle.model.specs.declared.Extreme.{Extreme}
use Rattle.model.proofs.Sets.{set_number, set_number_lem, number_cong, number_with}
use Rattle.model.proofs.Attained.{placed_lanes_lem, placed_sum_lem, placed_factors, never_additional}
use Rattle.centres.specs.declared.across.Across.{Across}
use Rattle.sets.specs.Sets.{number_at}
use Rattle.sets.specs.declared.Loading.{Loading}
use Rattle.sets.proofs.SetNumbers.{bit_past}
use Rattle.lanes.specs.Loadings.{lane_by, LanesPlaced, ElementRight, LoadingOf, TrafficPlaced}
use Rattle.lanes.specs.declared.entries.Chosen.{Chosen}

-- ---- a lane by its two tests
loaded_by : (hn over : Chosen) (f : ℕ) (a b : Bool) → entry_bit (lane_by hn over f a b).entry ≡ (if (if a then true else b) then 1 else 0)
loaded_by hn over f true b = refl
loaded_by hn over f false true = refl
loaded_by hn over f false false = refl

hn_by : (hn over : Chosen) (f : ℕ) (a b : Bool) → (a ≡ true → b ≡ false) → entry_is HN (lane_by hn over f a b).entry ≡ b
hn_by hn over f true b h = sym (h refl)
hn_by hn over f false true h = refl
hn_by hn over f false false h = refl

ho_by : (hn over : Chosen) (f : ℕ) (a b : Bool) → entry_is HO (lane_by hn over f a b).entry ≡ a
ho_by hn over f true b = refl
ho_by hn over f false true = refl
ho_by hn over f false false = refl

-- no factor outside the set
none : (live : Live) {f : ℕ} (b : Bool) → b ≡ false → ltb 0 f ≡ is_additional live b → 0 ≡ f
none live {f} b is e = let h = ltb-false 0 f (e ∙ ap (is_additional live) is ∙ never_additional live) in omega arith

-- it shows its factor, where only a lane of the set that is not the HO lane has one
factor_by : (live : Live) (hn over : Chosen) (f : ℕ) (a b : Bool) → (a ≡ true → b ≡ false) → ltb 0 f ≡ is_additional live b → (lane_by hn over f a b).factor ≡ f
factor_by live hn over f true b h e = none live b (h refl) e
factor_by live hn over f false true h e = refl
factor_by live hn over f false false h e = none live false refl e

-- a loaded entry is not unloaded
abbrev IsUnloaded : Entry → Type 0
IsUnloaded Unloaded = Unit {0}
IsUnloaded (Hn sense) = ⊥
IsUnloaded (Ho sense) = ⊥

idle_by : (hn over : Chosen) (f : ℕ) (a b : Bool) → (lane_by hn over f a b).entry ≡ Unloaded → lane_by hn over f a b ≡ empty_lane
idle_by hn over f true b e = absurd (subst IsUnloaded (sym e) tt)
idle_by hn over f false true e = absurd (subst IsUnloaded (sym e) tt)
idle_by hn over f false false e = refl

-- ---- the number of the loaded lanes
-- the lowest bit apart
number_low : (n : ℕ) (test : ℕ → Bool) → set_number (suc n) test ≡ (if test 0 then 1 else 0) + 2 * set_number n (λ i. test (suc i))
number_low zero test = omega arith
number_low (suc n) test = ap (λ (r : ℕ). (if test (suc n) then 1 else 0) * 2 ^ suc n + r) (number_low n test) ∙ rw (pow-suc 2 n) (regroup (test (suc n)) (if test 0 then 1 else 0) (2 ^ n) (set_number n (λ i. test (suc i))))
  where
    regroup : (t : Bool) (d p r : ℕ) → (if t then 1 else 0) * (p * 2) + (d + 2 * r) ≡ d + 2 * ((if t then 1 else 0) * p + r)
    regroup true d p r = omega arith
    regroup false d p r = omega arith

-- the number of a list's loaded lanes
set_of_lem : (lanes : List Lane) (test : ℕ → Bool) → ((i : ℕ) → i < length lanes → entry_bit (get_or lanes i empty_lane).entry ≡ (if test i then 1 else 0)) → set_of lanes ≡ set_number (length lanes) test
set_of_lem [] test h = refl
set_of_lem (l ∷ rest) test h =
    ap₂ (λ (a b : ℕ). a + 2 * b) (h 0 (omega arith)) (set_of_lem rest (λ i. test (suc i)) (λ i p. h (suc i) (omega arith)))
    ∙ sym (number_low (length rest) test)

module _ (best : Loading) (n : ℕ) (hn over : ℕ → Chosen) (all : List Lane) (small : best.set < 2 ^ n) (few : n ≤ 10) (apart : bit best.set best.lane ≡ false) (lane : (best.lane < n) ⊎ (best.lane ≡ 10))
    (placed : LanesPlaced best n hn over all) where
  abbrev set : ℕ
  set = best.set

  abbrev o : ℕ
  o = best.lane

  -- lane i is loaded
  abbrev loaded : ℕ → Bool
  loaded i = if eqb i o then true else bit set i

  outside : (i : ℕ) → n ≤ i → i < 10 → eqb i o ≡ false
  outside i h l = ne_eqb i o (λ e. elim lane [ inl p ↦ omega arith | inr p ↦ omega arith ])

  number_is : set_of all ≡ set_number 10 loaded
  number_is =
      let ten = placed.ten in
      set_of_lem all loaded (λ i h. elim (dec_le n i) [
        | yes l ↦ ap (λ (x : Lane). entry_bit x.entry) (placed.past i l) ∙ sym (ap₂ (λ (a b : Bool). if (if a then true else b) then 1 else 0) (outside i l (omega arith)) (bit_past n set i small l))
        | no l ↦ ap (λ (x : Lane). entry_bit x.entry) (placed.each i (omega arith)) ∙ loaded_by (hn i) (over i) (number_at best.factors i) (eqb i o) (bit set i)
      ])
      ∙ ap (λ (m : ℕ). set_number m loaded) ten

  whole : set_number 10 (bit set) ≡ set
  whole = set_number_lem 10 set (lt_of_lt_of_le small (pow_mono {i = n} {j = 10} few))

  pub loaded_set : set_of all ≡ (if ltb o 10 then set + 2 ^ o else set)
  loaded_set =
      number_is
      ∙ by_test (ltb o 10) (λ t. set_number 10 loaded ≡ (if t then set + 2 ^ o else set))
      (λ t. number_with 10 o (bit set) (ltb-true o 10 t) apart ∙ ap (λ (m : ℕ). m + 2 ^ o) whole)
      (λ t. number_cong 10 loaded (bit set) (λ i l. ap (λ (t : Bool). if t then true else bit set i) (ne_eqb i o (λ e. let h = ltb-false o 10 t in omega arith))) ∙ whole)

-- ---- in a job
module _ (q : Question) (job : Job) (live : Live) (across : Across) (dynamic : ℕ) (best : Loading) (hn ho : ℕ → Chosen) (f : LoadingOf q job live across dynamic best hn ho) (few : across.lanes ≤ 10)
    (x : Extreme) (value : x.value ≡ effect_of q dynamic best.value across.denominator) (set : x.placement.set ≡ (if ltb best.lane 10 then best.set + 2 ^ best.lane else best.set))
    (as-found : LanesPlaced best across.lanes hn ho x.placement.lanes) where
  abbrev at : ℕ
  at = best.lane

  abbrev factor : ℕ → ℕ
  factor = number_at best.factors

  placed : LanesPlaced best (lanes job) hn ho x.placement.lanes
  placed = subst (λ (n : ℕ). LanesPlaced best n hn ho x.placement.lanes) f.spanned.lanes as-found

  -- the HO lane is not in the set
  apart_at : (i : ℕ) → eqb i at ≡ true → bit best.set i ≡ false
  apart_at i e = ap (bit best.set) (eqb-true i at e) ∙ f.loading.apart

  under_hn_lem : (i : ℕ) → i < lanes job → entry_is HN (lane_at x.placement i).entry ≡ bit best.set i
  under_hn_lem i h =
      ap (λ (y : Lane). entry_is HN y.entry) (placed.each i h)
      ∙ hn_by (hn i) (ho i) (factor i) (eqb i at) (bit best.set i) (apart_at i)

  under_ho_lem : (i : ℕ) → i < lanes job → entry_is HO (lane_at x.placement i).entry ≡ eqb i at
  under_ho_lem i h = ap (λ (y : Lane). entry_is HO y.entry) (placed.each i h) ∙ ho_by (hn i) (ho i) (factor i) (eqb i at) (bit best.set i)

  shown : (i : ℕ) → i < lanes job → (lane_at x.placement i).factor ≡ factor i
  shown i h = ap (λ (y : Lane). y.factor) (placed.each i h) ∙ factor_by live (hn i) (ho i) (factor i) (eqb i at) (bit best.set i) (apart_at i) (f.loading.factors.lanes i h)

  entry_by : (i : ℕ) (c d : Chosen) (a b : Bool) → ElementRight q job HN i c → (a ≡ true → ElementRight q job HO i d) → EntryRight q job i (lane_by c d (factor i) a b).entry (lane_by c d (factor i) a b).centre
  entry_by i c d true b h k = (k refl).at
  entry_by i c d false true h k = h.at
  entry_by i c d false false h k = tt

  -- its sum is the job's best
  best_is : best.value ≡ best_sum q job live
  unfolding best_sum
  best_is = f.loading.best

  pub traffic_placed : TrafficPlaced q job live x
  unfolding traffic_value
  traffic_placed =
      let counted = placed_lanes_lem q job live x.placement best.set (λ i. eqb i at) factor under_hn_lem under_ho_lem shown in
      record {
        value =
            value
            ∙ ap (λ (d : ℕ). effect_of q d best.value across.denominator) f.dynamic_is
            ∙ ap₂ (λ (z : ℤ) (d : ℕ). effect_of q (job.dynamic q) z d) best_is f.spanned.denominator;
        entries = λ i h.
            subst (λ (y : Lane). EntryRight q job i y.entry y.centre) (sym (placed.each i h))
            (entry_by i (hn i) (ho i) (eqb i at) (bit best.set i) (f.under_hn i h) (λ e. f.under_ho i h (eqb-true i at e)));
        kinds = subst (λ (m : ℕ). KindsFit job.profile live m (placed_lanes job HO x.placement)) (sym counted.0) (subst (KindsFit job.profile live (count_to (lanes job) (bit best.set))) (sym counted.1) f.loading.kinds);
        factors = placed_factors q job live x.placement best.set (λ i. eqb i at) factor under_hn_lem under_ho_lem shown f.loading.factors;
        sum = placed_sum_lem q job live x.placement best.set (λ i. eqb i at) factor under_hn_lem under_ho_lem shown ∙ sym f.loading.value ∙ best_is;
        set = set ∙ sym (loaded_set best (lanes job) hn ho x.placement.lanes f.loading.small (subst (λ (n : ℕ). n ≤ 10) f.spanned.lanes few) f.loading.apart f.loading.lane placed);
        on_deck = λ i h. ap (λ (y : Lane). y.entry) (placed.past i h);
        idle = λ i e. elim (dec_le (lanes job) i) [
          | yes l ↦ placed.past i l
          | no l ↦
              let is = placed.each i (omega arith) in
              is ∙ idle_by (hn i) (ho i) (factor i) (eqb i at) (bit best.set i) (sym (ap (λ (y : Lane). y.entry) is) ∙ e)
        ];
      }
