-- A lane's limits: they leave room for a centre, and the section has the ordinates for every centre between them.
use Rattle.std.specs.Prelude.{if◌then◌else◌}
use mathlib.Core.Path.{◌≡◌, refl, sym, ◌∙◌, ap, ap₂, subst}
use mathlib.Core.Bool.{false}
use mathlib.Core.List.{List, []}
use Prim.Native.Nat.{ℕ, suc, ◌+◌, ◌-◌, ◌*◌, ◌/◌, ◌≤◌, ◌<◌, max}
use native.Mathlib.Nat.{mul_comm, mul-pos, mul-le-mul, mul-le-mul_right, mul-sub, mul-div-mul_left, add-div_right, le-div_iff_mul-le}
use native.Mathlib.Numerals.{add-one}
use native.Mathlib.Omega.{arith}
use lib.IntN.{ℤ, pos}
use lib.ListN.{get_or}
use lib.Dec.{eqb}
use borrow.Author.Tests.{lt-ltb, le-ltb}
use lib.Signed.{◌≤ℤ◌}
use Rattle.exact.specs.Questions.{NoBetter, extreme}
use Rattle.exact.specs.declared.Question.{Question}
use Rattle.exact.specs.declared.Question.TheVariants.{Greatest, Least}
use Rattle.exact.proofs.Extremes.{no_better_antisym, extreme_bounds}
use Rattle.exact.proofs.Order.{le_trans}
use Rattle.exact.proofs.Bridge.{by_test}
use Rattle.model.specs.Job.{Carriageway, highway, service, no_traffic, Job}
use Rattle.model.specs.Decode.{carriageway}
use Rattle.model.specs.Lanes.{lane_count, lanes_of, lowest, highest, transverse_at, best_ordinate, second_lanes, lanes, deck_of, number_on, unit}
use Rattle.model.specs.Format.{spaces}
use Rattle.model.proofs.Lanes.{lane_count_lem, lane_room}
use Rattle.model.proofs.Centre.{ordinate_bound}
use Rattle.centres.specs.Transverse.{TransverseFits, OrdinatesTo}
use Rattle.centres.specs.Spans.{CentreRight, SpanRight, no_span, SpanFits, AcrossFits, DecksFit, DecksOf, Span}
use Rattle.centres.specs.Spanned.{Spanned}
use Rattle.centres.specs.Candidates.{ordinate_at, BestBefore}
use Rattle.centres.specs.declared.Centre.{Centre}
use Rattle.centres.specs.declared.Decks.{Decks}
use Rattle.exact.proofs.Rounding.{div_mono}

-- what a lane's limits ask of the machine, and of the section
pub record Limits (s : List ℕ) (w n g i : ℕ) : Type 0 where
  pub few : n ≤ 5
  pub last : (i + 1) * w ≤ 10395
  pub before : i * w ≤ 10395
  pub apart : 0 < n * g
  pub close : n * g ≤ 250
  pub inside : 150 * n ≤ (i + 1) * w
  pub order : i * w + 150 * n ≤ (i + 1) * w - 150 * n
  pub ordinates : OrdinatesTo s (((i + 1) * w - 150 * n) / (n * g) + 1)

pub limits : {s : List ℕ} {w n g i : ℕ} → TransverseFits s w g → n ≡ lane_count w → i < n → Limits s w n g i
limits {s} {w} {n} {g} {i} fits e below =
    let few : n ≤ 5 = rw e (lane_count_lem w).1 in
    let roomy : 300 * n ≤ w = rw e (lane_room w fits.wide) in
    let last : (i + 1) * w ≤ 10395 = mul-le-mul {n₁ = i + 1} {n₂ = 5} (omega arith) fits.narrow in
    let next : (i + 1) * w ≡ i * w + w = omega arith in
    let apart : 0 < n * g = mul-pos (omega arith) (omega arith) in
    -- the highest centre is 150 cm or more from the right kerb
    let kerb : (i + 1) * w ≤ n * w = mul-le-mul_right w (omega arith) in
    let most : ((i + 1) * w - 150 * n) / (n * g) ≤ n * (w - 150) / (n * g) = div_mono apart (omega (arith, mul-sub n w 150)) in
    let end : (w - 150 + g) / g ≤ spaces w g = div_mono (omega arith) (omega arith) in
    let reach : ((i + 1) * w - 150 * n) / (n * g) + 1 ≤ spaces w g = omega (arith, mul-div-mul_left {m = n} (w - 150) g (omega arith), add-div_right (w - 150) {k = g} (omega arith)) in
    record {
      few = few;
      last = last;
      before = omega arith;
      apart = apart;
      close = mul-le-mul few fits.close;
      inside = omega arith;
      order = omega arith;
      ordinates = record { room = omega arith; near = λ k h. fits.near k (omega arith) };
    }

-- the best of a lane's limits and the transverse ordinates between is the lane's best
best_of_lane : (q : Question) (s : List ℕ) (w g i : ℕ) (c : Centre) → 0 < g →
    (let deck = carriageway s w g in let lo = lowest deck i in let hi = highest deck i in let d = lane_count w * g in
    lo ≤ hi → BestBefore q s d lo hi (hi / d + 1) c → CentreRight q deck i c)
unfolding ordinate_at transverse_at best_ordinate
best_of_lane q s w g i c g-pos order b =
    let st = b.stands in
    let deck = carriageway s w g in
    let lo = lowest deck i in
    let hi = highest deck i in
    let n = lane_count w in
    let t : ℕ → ℤ = transverse_at deck n in
    let there : lo + (c.at - lo) ≡ c.at = omega arith in
    record {
      from = st.from;
      to = st.to;
      here = st.here;
      near = st.near;
      best = no_better_antisym q c.ordinate (best_ordinate q deck i)
          (subst (λ (z : ℤ). NoBetter q z (best_ordinate q deck i)) (ap t there ∙ st.here) (extreme_bounds q (hi - lo) (λ j. t (lo + j)) (c.at - lo) (omega arith)))
          (ordinate_bound deck i g-pos q c.ordinate order b.at_lo b.at_hi
          (λ k left right. b.between k (omega (arith, (le-div_iff_mul-le {k = n * g} {x = k} {y = hi} (mul-pos (lane_count_lem w).0 g-pos)).1 (omega (arith, mul_comm k (n * g))))) left right));
    }

-- as the code counts
pub centre_right : (q : Question) {s : List ℕ} {w n g i : ℕ} {c : Centre} → n ≡ lane_count w → 0 < g →
    (let lo = i * w + 150 * n in let hi = (i + 1) * w - 150 * n in lo ≤ hi → BestBefore q s (n * g) lo hi (hi / (n * g) + 1) c → CentreRight q (carriageway s w g) i c)
centre_right q {s} {w} {n} {g} {i} {c} e g-pos order b =
    let P : ℕ → ℕ → Type 0 = λ n j. let lo = i * w + 150 * n in let hi = j * w - 150 * n in (lo ≤ hi) × BestBefore q s (n * g) lo hi (hi / (n * g) + 1) c in
    let p : P (lane_count w) (suc i) = subst (P (lane_count w)) (add-one i) (subst (λ (n : ℕ). P n (i + 1)) e (order, b)) in
    best_of_lane q s w g i c g-pos p.0 p.1

-- ---- what lies across
-- no least ordinate is above the greatest
span_order : (deck : Carriageway) (i : ℕ) (s : Span) → SpanRight deck i s → s.least.ordinate ≤ℤ s.greatest.ordinate
unfolding best_ordinate
span_order deck i s right =
    let m = highest deck i - lowest deck i in
    let t : ℕ → ℤ = λ j. transverse_at deck (lanes_of deck) (lowest deck i + j) in
    subst (λ (x : ℤ). x ≤ℤ s.greatest.ordinate) (sym (right.each Least).best)
    (subst (λ (x : ℤ). extreme Least m t ≤ℤ x) (sym (right.each Greatest).best) (le_trans (extreme_bounds Least m t 0 (omega arith)) (extreme_bounds Greatest m t 0 (omega arith))))

pub span_fits_lem : {deck : Carriageway} {i : ℕ} {s : Span} → SpanRight deck i s → SpanFits s
span_fits_lem {deck} {i} {s} right = record { near = λ q. (right.each q).near; order = span_order deck i s right }

-- ---- the carriageways of a job
module _ {near far : List ℕ} {d : Decks} (fit : DecksFit near far d) where
  pub decks_few : (0 < d.lanes) × (d.lanes ≤ 5) × (d.beyond ≤ 5)
  decks_few =
      let n = lane_count_lem d.width in
      let m = lane_count_lem d.second in
      let beyond : d.beyond ≤ 5 = rw fit.beyond (by_test (eqb d.second 0) (λ t. (if t then 0 else lane_count d.second) ≤ 5) (λ _. omega arith) (λ _. m.1)) in
      (omega (arith, fit.lanes), omega (arith, fit.lanes), beyond)

  module _ {job : Job} (of : DecksOf near far d.width d.second d.g job) where
    pub first_lanes : d.lanes ≡ lanes_of job.deck
    first_lanes = fit.lanes ∙ ap lanes_of (sym of.deck)

    pub second_lanes_is : d.beyond ≡ second_lanes job
    unfolding second_lanes
    second_lanes_is = fit.beyond ∙ ap (λ (c : Carriageway). if eqb c.width 0 then 0 else lanes_of c) (sym of.second)

    pub all_lanes : d.lanes + d.beyond ≡ lanes job
    unfolding lanes
    all_lanes = ap₂ ◌+◌ first_lanes second_lanes_is

    -- lane i is the first one's, or the second one's
    pub on_first : (i : ℕ) {s : Span} → i < d.lanes → SpanRight (carriageway near d.width d.g) i s → SpanRight (deck_of job i) (number_on job i) s
    unfolding deck_of number_on
    on_first i {s} h right = rw (lt-ltb i (lanes_of job.deck) (omega (arith, first_lanes))) (subst (λ (c : Carriageway). SpanRight c i s) (sym of.deck) right)

    pub on_second : (i : ℕ) {s : Span} → d.lanes ≤ i → SpanRight (carriageway far d.second d.g) (i - d.lanes) s → SpanRight (deck_of job i) (number_on job i) s
    unfolding deck_of number_on
    on_second i {s} h right =
        rw (le-ltb i (lanes_of job.deck) (omega (arith, first_lanes))) (subst (λ (n : ℕ). SpanRight job.second (i - n) s) first_lanes (subst (λ (c : Carriageway). SpanRight c (i - d.lanes) s) (sym of.second) right))

  -- some job with these carriageways
  abbrev deck_job : Job
  deck_job = record {
    profile = highway;
    line = record { h = 1; pieces = 0; piece = λ i. record { left = pos 0; right = pos 0 } };
    deck = carriageway near d.width d.g;
    second = carriageway far d.second d.g;
    dynamic = λ q. 1000;
    effect = λ e. record { value = pos 0; optional = false };
    rows = 0;
    row = λ r. record { limit = service; live = no_traffic; factor = 0; others = 0; chain = λ a. []; k = λ a. 0 };
  }

  -- each lane's span, the lanes and the sums' denominator are those of every job with these carriageways
  module _ (spans : List Span) (each : (job : Job) → DecksOf near far d.width d.second d.g job → (i : ℕ) → i < lanes job → SpanRight (deck_of job i) (number_on job i) (get_or spans i no_span)) where
    module _ {k : ℕ} (k_is : k ≡ max 1 d.beyond) where
      pub across_fits : AcrossFits spans d.lanes d.beyond (d.lanes + d.beyond) (d.lanes * k * d.g)
      across_fits =
          let few = decks_few in
          let of : DecksOf near far d.width d.second d.g deck_job = record { deck = refl; second = refl } in
          let some : k ≤ 5 = omega arith in
          let most : d.lanes * k ≤ 5 * 5 = mul-le-mul few.1 some in
          let least : 1 ≤ d.lanes * k = mul-pos few.0 (omega arith) in
          record {
            some = few.0;
            few = few.1;
            second_few = few.2;
            lanes = refl;
            apart = mul-le-mul {n₁ = 1} {n₂ = d.lanes * k} least fit.first.apart;
            close = mul-le-mul {n₁ = d.lanes * k} {n₂ = 25} most fit.first.close;
            spans = λ i h. span_fits_lem (each deck_job of i (omega (arith, all_lanes of)));
          }

      pub spanned : (fits : AcrossFits spans d.lanes d.beyond (d.lanes + d.beyond) (d.lanes * k * d.g)) (job : Job) → DecksOf near far d.width d.second d.g job →
          Spanned job (record { spans = spans; first = d.lanes; second = d.beyond; lanes = d.lanes + d.beyond; denominator = d.lanes * k * d.g; fits = fits })
      unfolding unit
      spanned fits job of = record {
        first = first_lanes of;
        second = second_lanes_is of;
        lanes = all_lanes of;
        denominator = ap₂ ◌*◌ (ap₂ ◌*◌ (first_lanes of) (k_is ∙ ap (max 1) (second_lanes_is of))) (ap (λ (c : Carriageway). c.g) (sym of.deck));
        spaced = let some : 0 < d.g = omega (arith, fit.first.apart) in (subst (λ (c : Carriageway). 0 < c.g) (sym of.deck) some, subst (λ (c : Carriageway). 0 < c.g) (sym of.second) some);
        each = λ i h. each job of i (omega (arith, all_lanes of));
      }
