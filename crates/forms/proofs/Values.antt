-- Accepted jobs that agree have the same values, governing rows, patch bytes and attained placements; so have a job and its form. Records walked and omissions of factors 0 may differ.
use Rattle.std.specs.Prelude.{if◌then◌else◌, None}
use mathlib.Core.Path.{◌≡◌, refl, sym, ◌∙◌, ap, ap₂, subst}
use mathlib.Core.Bool.{Bool}
use mathlib.Core.Logic.{◌↔◌}
use mathlib.Core.List.{List}
use Prim.Native.Nat.{ℕ, zero, suc, ◌+◌, ◌-◌, ◌*◌, ◌≤◌, ◌<◌}
use native.Mathlib.Omega.{arith}
use lib.Dec.{eqb}
use borrow.Author.Tests.{eqb-true}
use lib.IntN.{ℤ, pos, ◌+ℤ◌, ◌*ℤ◌}
use Rattle.exact.specs.Parts.{up}
use Rattle.exact.specs.Questions.{better, extreme, NoBetter}
use Rattle.exact.specs.declared.Question.{Question}
use Rattle.exact.specs.declared.Question.TheVariants.{Greatest, Least}
use Rattle.exact.proofs.Bridge.{by_test}
use Rattle.words.specs.Words.{count_at}
use Rattle.model.specs.Answered.{lane_at, factor_at, reported_load, reported, TrafficRight}
use Rattle.model.specs.Arrangements.{Load, unloaded, element, Arrangement, carries, load_effect, element_effect, lanes_under, effect_under, sum_of, arranged, Lawful}
use Rattle.model.specs.Decode.{influence_line, carriageway, effect_at, limit_of, live_of, row_at, dynamic_value, row_count, row_of, decode}
use Rattle.model.specs.Dynamic.{dynamic_factor}
use Rattle.model.specs.Format.{profile_of, effect_unit, header_of, section_of}
use Rattle.model.specs.Job.{Term, Limit, Live, Row, Profile, highway, Job}
use Rattle.model.specs.Lanes.{lanes, second_lanes, deck_of, number_on, other_lanes, unit, in_units, sum_unit, lowest_in, highest_in}
use Rattle.model.specs.Line.{Kind, HN, HO, patch_bytes}
use Rattle.model.specs.Traffic.{best_in_lane, lane_effect, sum_on, best_sum, effect_of, traffic_value}
use Rattle.model.specs.Rows.{chain_value, row_value, best_chain, best_row, governing, state_value}
use Rattle.model.specs.declared.Account.{Account}
use Rattle.model.specs.declared.Entry.{Entry}
use Rattle.model.specs.declared.Entry.TheVariants.{Unloaded, Hn, Ho}
use Rattle.model.specs.declared.Extreme.{Extreme}
use Rattle.model.specs.declared.Placement.{Placement}
use Rattle.model.specs.Refusals.{highway_verdict}
use Rattle.model.specs.StandardForm.{factor_of, form}
use Rattle.model.specs.declared.Header.{Header}
use Rattle.model.specs.declared.Part.TheVariants.{Rows, Records}
use Rattle.model.proofs.HeaderLimits.{header_fits}
use Rattle.model.proofs.Verdict.{clear, highway_accepted}
use Rattle.forms.proofs.Rising.{Each, TermFits}
use Rattle.forms.proofs.Totals.{same_value, same_best}
use Rattle.forms.proofs.Listed.{chain_of, row_chain}
use Rattle.forms.proofs.Agreeing.{Same, with_records, same_header, same_word, same_count, same_agree}
use Rattle.forms.proofs.Standard.{same_sym, listed, says}
use Rattle.forms.proofs.Admitted.{form_accepted}

-- ---- what does not look at the rows
-- the job with other rows
abbrev with_rows : Job → (ℕ → Row) → Job
with_rows job row = record { profile = job.profile; line = job.line; deck = job.deck; second = job.second; dynamic = job.dynamic; effect = job.effect; rows = job.rows; row = row }

module _ (job : Job) (row : ℕ → Row) where
  traffic_kept : (q : Question) (live : Live) → traffic_value q (with_rows job row) live ≡ traffic_value q job live
  unfolding traffic_value best_sum lane_effect best_in_lane lanes second_lanes deck_of number_on other_lanes unit lowest_in highest_in
  traffic_kept q live = refl

  load_kept : (i k : ℕ) (l : Load) → load_effect (with_rows job row) i k l ≡ load_effect job i k l
  unfolding element_effect deck_of
  load_kept i k unloaded = refl
  load_kept i k (element e) = refl

  under_kept : (k : ℕ) (kind : Kind) (w : Arrangement) → effect_under (with_rows job row) k kind w ≡ effect_under job k kind w
  under_kept k kind w = λ t i. if carries kind (w.load i) then load_kept i k (w.load i) t else pos 0

  sum_kept : (live : Live) (k : ℕ) (w : Arrangement) → sum_of (with_rows job row) live k w ≡ sum_of job live k w
  unfolding sum_of lanes second_lanes
  sum_kept live k w = ap₂ (λ (hn ho : ℕ → ℤ). sum_on job.profile live (lanes job) hn ho (lanes_under job HN w) w.factor) (under_kept k HN w) (under_kept k HO w)

  arranged_kept : (q : Question) (live : Live) (k : ℕ) (w : Arrangement) → arranged q (with_rows job row) live k w ≡ arranged q job live k w
  unfolding arranged
  arranged_kept q live k w = ap (λ (z : ℤ). effect_of q (job.dynamic q) z (k * k * sum_unit job k)) (sum_kept live k w)

  lawful_kept : {live : Live} {k : ℕ} {w : Arrangement} → Lawful job live k w ↔ Lawful (with_rows job row) live k w
  unfolding lanes second_lanes deck_of number_on lowest_in highest_in
  lawful_kept = (
    λ l. record { fine = l.fine; kinds = l.kinds; centres = λ i e h s. let c = l.centres i e h s in record { from = c.from; to = c.to }; factors = l.factors },
    λ l. record { fine = l.fine; kinds = l.kinds; centres = λ i e h s. let c = l.centres i e h s in record { from = c.from; to = c.to }; factors = l.factors },
  )

  entry_kept : (patch : List ℕ) (a : Account) (e : Entry) (centre : ℕ) → reported_load (with_rows job row) patch a e centre ≡ reported_load job patch a e centre
  unfolding unit second_lanes
  entry_kept patch a Unloaded centre = refl
  entry_kept patch a (Hn sense) centre = refl
  entry_kept patch a (Ho sense) centre = refl

  reported_kept : (patch : List ℕ) (a : Account) (p : Placement) → reported (with_rows job row) patch a p ≡ reported job patch a p
  unfolding reported other_lanes second_lanes
  reported_kept patch a p = λ t. record { load = λ i. entry_kept patch a (lane_at p i).entry (in_units job i (lane_at p i).centre) t; factor = factor_at p }

  right_kept : (patch : List ℕ) (a : Account) (q : Question) (live : Live) (x : Extreme) → TrafficRight job patch a q live x → TrafficRight (with_rows job row) patch a q live x
  unfolding unit lanes second_lanes
  right_kept patch a q live x r =
      record {
        value = r.value ∙ sym (traffic_kept q live);
        unbeaten = λ k w l. subst (λ (z : ℤ). NoBetter q z x.value) (sym (arranged_kept q live k w)) (r.unbeaten k w (lawful_kept.1 l));
        lawful = subst (Lawful (with_rows job row) live (unit job)) (sym (reported_kept patch a x.placement)) (lawful_kept.0 r.lawful);
        gives = ap (arranged q (with_rows job row) live (unit job)) (reported_kept patch a x.placement) ∙ arranged_kept q live (unit job) (reported job patch a x.placement) ∙ r.gives;
        set = r.set;
        on_deck = r.on_deck;
        idle = r.idle;
      }

-- ---- accepted jobs that say the same
governing_cong : (q : Question) (row row' : ℕ → Row) (value value' : ℕ → ℤ) (limit : Limit) (n : ℕ) →
    ((i : ℕ) → i < n → ((row (suc i)).limit ≡ (row' (suc i)).limit) × (value (suc i) ≡ value' (suc i))) → governing q row value limit n ≡ governing q row' value' limit n
unfolding governing
governing_cong q row row' value value' limit zero h = refl
governing_cong q row row' value value' limit (suc n) h =
    let e = h n (omega arith) in
    rw (e.0, e.1, governing_cong q row row' value value' limit n (λ i l. h i (omega arith))) refl

-- where rows are listed, they are as many as the header says
pub listed_rows : (b : List ℕ) → profile_of (header_of b).edition ≡ highway → (decode b).rows ≡ (header_of b).rows
unfolding decode
listed_rows b h = ap (λ (p : Profile). row_count p (header_of b).rows) h

module _ (b c : List ℕ) (okb : highway_verdict b ≡ None) (okc : highway_verdict c ≡ None) (s : Same b c) where
  abbrev head : Header
  head = header_of b

  count : (q : ℕ) → q < 9 → count_at c q ≡ count_at b q
  count q h = sym (same_count b c s q h)

  header_is : header_of c ≡ with_records head (header_of c).records
  header_is = sym (same_header b c (same_word b c s))

  -- word 10 counts with kind 4 alone, of an edition that has it
  least_span : count_at b 5 ≡ 4 → count_at c 10 ≡ count_at b 10
  least_span k = ap up (sym (same_word b c s 10 ((header_fits b (clear b (highway_accepted b okb).1).c2).kind4 k) (λ e. omega arith)))

  dynamic_same : (q : Question) → dynamic_value c (header_of c) q ≡ dynamic_value b head q
  dynamic_same Greatest = count 6 (omega arith)
  dynamic_same Least =
      ap₂ (λ (k v : ℕ). if eqb k 4 then count_at c 10 else v) (count 5 (omega arith)) (count 6 (omega arith))
      ∙ by_test (eqb (count_at b 5) 4) (λ t. (if t then count_at c 10 else count_at b 6) ≡ (if t then count_at b 10 else count_at b 6)) (λ t. least_span (eqb-true (count_at b 5) 4 t)) (λ _. refl)

  -- all but the rows is the same
  pub same_but_rows : decode c ≡ with_rows (decode b) (decode c).row
  unfolding decode
  same_but_rows = λ i. record {
    profile = profile_of (header_is i).edition;
    line = influence_line (sym s.line i) (header_is i).h (header_is i).pieces;
    deck = carriageway (sym s.transverse i) (header_is i).width (header_is i).spacing;
    second = carriageway (sym s.second i) (header_is i).second (header_is i).spacing;
    dynamic = λ q. dynamic_factor (header_is i).kind (dynamic_same q i);
    effect = effect_at (effect_unit (header_is i).edition) (sym s.effects i);
    rows = row_count (profile_of (header_is i).edition) (header_is i).rows;
    row = row_of (profile_of (header_of c).edition) (section_of c Rows) (section_of c Records) (header_of c).records;
  }

  -- ---- traffic: what looks at line, decks and dynamic factor alone
  by_job : (P : Job → Type 0) → P (with_rows (decode b) (decode c).row) → P (decode c)
  by_job P = subst P (sym same_but_rows)

  -- the four traffic values
  pub same_traffic : (q : Question) (live : Live) → traffic_value q (decode c) live ≡ traffic_value q (decode b) live
  same_traffic q live = by_job (λ j. traffic_value q j live ≡ traffic_value q (decode b) live) (traffic_kept (decode b) (decode c).row q live)

  -- what an arrangement gives, and whether it keeps the rules
  pub same_arranged : (q : Question) (live : Live) (k : ℕ) (w : Arrangement) → arranged q (decode c) live k w ≡ arranged q (decode b) live k w
  same_arranged q live k w = by_job (λ j. arranged q j live k w ≡ arranged q (decode b) live k w) (arranged_kept (decode b) (decode c).row q live k w)

  pub same_lawful : (live : Live) (k : ℕ) (w : Arrangement) → Lawful (decode b) live k w ↔ Lawful (decode c) live k w
  same_lawful live k w = by_job (λ j. Lawful (decode b) live k w ↔ Lawful j live k w) (lawful_kept (decode b) (decode c).row)

  -- a reported traffic value with its placement
  pub same_right : (patch : List ℕ) (account : Account) (q : Question) (live : Live) (x : Extreme) → TrafficRight (decode b) patch account q live x → TrafficRight (decode c) patch account q live x
  same_right patch account q live x r = by_job (λ j. TrafficRight j patch account q live x) (right_kept (decode b) (decode c).row patch account q live x r)

  -- the patch bytes, of the same line
  pub same_line : (decode c).line ≡ (decode b).line
  same_line = ap (λ (j : Job). j.line) same_but_rows

  -- ---- rows and states
  same_effects : (decode c).effect ≡ (decode b).effect
  same_effects = ap (λ (j : Job). j.effect) same_but_rows

  -- the rows, as their sections spell them
  rows_b : (decode b).row ≡ row_at (section_of b Rows) (section_of b Records) head.records
  unfolding decode
  rows_b = ap (λ (p : Profile). row_of p (section_of b Rows) (section_of b Records) head.records) (listed b okb).listed

  rows_c : (decode c).row ≡ row_at (section_of c Rows) (section_of c Records) (header_of c).records
  unfolding decode
  rows_c = ap (λ (p : Profile). row_of p (section_of c Rows) (section_of c Records) (header_of c).records) (listed c okc).listed

  -- a row's own words
  row_counts : (i j : ℕ) → i < head.rows → j < 3 → count_at (section_of c Rows) (4 * i + j) ≡ count_at (section_of b Rows) (4 * i + j)
  row_counts i j h l = ap up (sym ((same_agree s).row i j h l))

  module _ (i : ℕ) (h : i < head.rows) where
    last : suc i - 1 ≡ i
    last = omega arith

    pub same_limit : ((decode c).row (suc i)).limit ≡ ((decode b).row (suc i)).limit
    same_limit = let z : 4 * i ≡ 4 * i + 0 = omega arith in rw (rows_b, rows_c, last, z) (ap limit_of (row_counts i 0 h (omega arith)))

    same_live : ((decode c).row (suc i)).live ≡ ((decode b).row (suc i)).live
    same_live = rw (rows_b, rows_c, last) (ap live_of (row_counts i 1 h (omega arith)))

    same_factor : ((decode c).row (suc i)).factor ≡ ((decode b).row (suc i)).factor
    same_factor = rw (rows_b, rows_c, last) (row_counts i 2 h (omega arith))

    there : i < (header_of c).rows
    there = let n = same_count b c s 8 (omega arith) in omega arith

    fits_c : Each (TermFits head.effects) (chain_of c i)
    fits_c = subst (λ (n : ℕ). Each (TermFits n) (chain_of c i)) (count 7 (omega arith)) ((listed c okc).terms i there)

    factors : (e : ℕ) → 1 ≤ e → e ≤ head.effects → factor_of (chain_of c i) e ≡ factor_of (chain_of b i) e
    factors e l m =
        ap (λ (ts : List Term). factor_of ts e) (sym (row_chain c (listed c okc).listed i)) ∙ sym (s.factor i e h l m)
        ∙ ap (λ (ts : List Term). factor_of ts e) (row_chain b (listed b okb).listed i)

    -- a row's value, whatever is left out and whatever the traffic
    pub same_row_value : (a : ℕ) (out : ℕ → Bool) (traffic : ℤ) → row_value (decode c).effect ((decode c).row (suc i)) a out traffic ≡ row_value (decode b).effect ((decode b).row (suc i)) a out traffic
    unfolding row_value
    same_row_value a out traffic =
        ap₂ ◌+ℤ◌ chain (ap (λ (n : ℕ). pos n *ℤ traffic) same_factor)
      where
        chain : chain_value (decode c).effect out (((decode c).row (suc i)).chain a) ≡ chain_value (decode b).effect out (((decode b).row (suc i)).chain a)
        chain =
            rw (rows_b, rows_c, same_effects)
            (same_value head.effects (chain_of c i) (chain_of b i) ((listed c okc).distinct i there) fits_c ((listed b okb).distinct i h) ((listed b okb).terms i h) factors (decode b).effect out)

    same_best_row : (q : Question) → best_row q (decode c).effect (traffic_value q (decode c)) ((decode c).row (suc i)) ≡ best_row q (decode b).effect (traffic_value q (decode b)) ((decode b).row (suc i))
    unfolding best_row
    same_best_row q =
        ap₂ ◌+ℤ◌ chain (ap (better q (pos 0)) (ap₂ (λ (n : ℕ) (t : ℤ). pos n *ℤ t) same_factor (ap (traffic_value q (decode c)) same_live ∙ same_traffic q ((decode b).row (suc i)).live)))
      where
        chain : extreme q ((decode c).row (suc i)).others (λ a. best_chain q (decode c).effect (((decode c).row (suc i)).chain a)) ≡ extreme q ((decode b).row (suc i)).others (λ a. best_chain q (decode b).effect (((decode b).row (suc i)).chain a))
        chain =
            rw (rows_b, rows_c, same_effects)
            (same_best head.effects (chain_of c i) (chain_of b i) ((listed c okc).distinct i there) fits_c ((listed b okb).distinct i h) ((listed b okb).terms i h) factors q (decode b).effect)

  -- a limit state's value and governing row
  pub same_state : (q : Question) (limit : Limit) → state_value q (decode c) limit ≡ state_value q (decode b) limit
  same_state q limit =
      ap (governing q (decode c).row (λ r. best_row q (decode c).effect (traffic_value q (decode c)) ((decode c).row r)) limit) rows_same
      ∙ governing_cong q (decode c).row (decode b).row _ _ limit (decode b).rows (λ i h. (same_limit i (inside h), same_best_row i (inside h) q))
    where
      rows_same : (decode c).rows ≡ (decode b).rows
      rows_same = ap (λ (j : Job). j.rows) same_but_rows

      inside : {i : ℕ} → i < (decode b).rows → i < head.rows
      inside {i} h = subst (λ (n : ℕ). i < n) (listed_rows b (listed b okb).listed) h

-- ---- a job and its form
module _ (b : List ℕ) (accepted : highway_verdict b ≡ None) where
  abbrev f : List ℕ
  f = form b

  ok : highway_verdict f ≡ None
  ok = form_accepted b accepted

  -- the four traffic values
  pub form_traffic : (q : Question) (live : Live) → traffic_value q (decode f) live ≡ traffic_value q (decode b) live
  form_traffic = same_traffic b f accepted ok (says b accepted)

  -- what an arrangement gives, and whether it keeps the rules, for every k
  pub form_arranged : (q : Question) (live : Live) (k : ℕ) (w : Arrangement) → arranged q (decode f) live k w ≡ arranged q (decode b) live k w
  form_arranged = same_arranged b f accepted ok (says b accepted)

  pub form_lawful : (live : Live) (k : ℕ) (w : Arrangement) → Lawful (decode b) live k w ↔ Lawful (decode f) live k w
  form_lawful = same_lawful b f accepted ok (says b accepted)

  -- a placement attains a value of one exactly when it attains it of the other
  pub form_right : (patch : List ℕ) (account : Account) (q : Question) (live : Live) (x : Extreme) → TrafficRight (decode b) patch account q live x ↔ TrafficRight (decode f) patch account q live x
  form_right patch account q live x =
      (same_right b f accepted ok (says b accepted) patch account q live x, same_right f b ok accepted (same_sym (says b accepted)) patch account q live x)

  -- the patch bytes
  pub form_patch : patch_bytes (decode f).line ≡ patch_bytes (decode b).line
  form_patch = ap patch_bytes (same_line b f accepted ok (says b accepted))

  -- a row's value, whatever is left out and whatever the traffic
  pub form_row_value : (i : ℕ) → i < (header_of b).rows → (a : ℕ) (out : ℕ → Bool) (traffic : ℤ) → row_value (decode f).effect ((decode f).row (suc i)) a out traffic ≡ row_value (decode b).effect ((decode b).row (suc i)) a out traffic
  form_row_value = same_row_value b f accepted ok (says b accepted)

  -- the limit states' values and governing rows
  pub form_state : (q : Question) (limit : Limit) → state_value q (decode f) limit ≡ state_value q (decode b) limit
  form_state = same_state b f accepted ok (says b accepted)
