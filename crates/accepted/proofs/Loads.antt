-- What the traffic values ask of an accepted job: its line effects, what lies across and the dynamic factors.
use Rattle.std.specs.Prelude.{if◌then◌else◌}
use mathlib.Core.Path.{◌≡◌, refl, sym, ◌∙◌, ap, subst}
use mathlib.Core.Logic.{◌⊎◌, inl, inr}
use mathlib.Core.Bool.{true}
use mathlib.Core.List.{List}
use Prim.Native.Nat.{ℕ, ◌+◌, ◌*◌, ◌≤◌, ◌<◌, max}
use native.Mathlib.Omega.{arith}
use lib.Dec.{ltb}
use lib.IntN.{ℤ, pos, ◌*ℤ◌}
use lib.Signed.{◌≤ℤ◌}
use borrow.Author.Tests.{lt-ltb}
use Rattle.exact.specs.Bounds.{Within}
use Rattle.exact.specs.Parts.{up}
use Rattle.exact.proofs.Bounds.{within_le, within_pos, within_mul}
use Rattle.exact.proofs.Bridge.{by_test}
use Rattle.exact.proofs.Extremes.{no_better_scale}
use Rattle.exact.proofs.Ring.{◌⊗◌, lit, ◌≐◌, solve}
use Rattle.exact.specs.declared.Question.{Question}
use Rattle.exact.specs.declared.Question.TheVariants.{Greatest, Least}
use Rattle.model.specs.Job.{Job}
use Rattle.model.specs.Decode.{decode, carriageway, dynamic_value}
use Rattle.model.specs.Dynamic.{dynamic_factor}
use Rattle.magnitudes.specs.Magnitudes.{line_most, among}
use Rattle.magnitudes.proofs.LineEffects.{OrdinatesWithin, effect_near}
use Rattle.model.specs.Line.{Kind, HN, HO, axle, line_effect}
use Rattle.model.specs.Format.{header_of, section_of}
use Rattle.model.specs.declared.Header.{Header}
use Rattle.model.specs.declared.Part.TheVariants.{Transverse, SecondTransverse}
use Rattle.model.specs.declared.Sense.{Sense}
use Rattle.model.specs.declared.Sense.TheVariants.{Raising, Lowering}
use Rattle.model.proofs.Lanes.{no_second}
use Rattle.model.proofs.Signs.{line_zero}
use Rattle.centres.specs.Spans.{DecksOf}
use Rattle.centres.specs.Spanned.{Spanned}
use Rattle.centres.specs.declared.Across.{Across}
use Rattle.lanes.specs.Entries.{LineEffectsFit, LoadsFit, other_in}
use Rattle.lanes.specs.Loadings.{effects_of}
use Rattle.model.specs.declared.BySense.{BySense}
use Rattle.accepted.specs.AccountParts.{Ready}

-- five times a tenth of a line effect's most is half of it
half : (kind : Kind) (n : ℕ) → 5 * (14000 * 500 + up (axle kind) * (500 + 500)) ≤ among n (line_most kind)
half HN n = by_test (ltb n 6) (λ t. 43000000 ≤ (if t then 86000000 else 43000000)) (λ _. omega arith) (λ _. omega arith)
half HO n = by_test (ltb n 6) (λ t. 51000000 ≤ (if t then 102000000 else 51000000)) (λ _. omega arith) (λ _. omega arith)

-- a kind's line effects of a line with the ordinates and the length that an accepted job has
module _ (job : Job) (kind : Kind) {e : BySense ℤ} (are : e ≡ effects_of job kind) (ordinates : OrdinatesWithin 5000 job.line) (reach : job.line.pieces * job.line.h ≤ 1000) where
  raised : e.raising ≡ line_effect job.line kind Raising
  raised = ap (λ (x : BySense ℤ). x.raising) are

  lowered : e.lowering ≡ line_effect job.line kind Lowering
  lowered = ap (λ (x : BySense ℤ). x.lowering) are

  own_near : (sense : Sense) → Within (line_most kind) (line_effect job.line kind sense)
  own_near sense = effect_near 5000 job.line ordinates reach kind sense

  effects_fit : LineEffectsFit (line_most kind) e
  effects_fit = record {
    up = subst (λ (z : ℤ). pos 0 ≤ℤ z) (sym raised) (line_zero job.line kind Raising);
    down = subst (λ (z : ℤ). z ≤ℤ pos 0) (sym lowered) (line_zero job.line kind Lowering);
    raising = subst (Within (line_most kind)) (sym raised) (own_near Raising);
    lowering = subst (Within (line_most kind)) (sym lowered) (own_near Lowering);
  }

  -- near enough in every lane: with one carriageway as they are; with two times at most 5, and a tenth
  module _ {across : Across} (on : Spanned job across) (tenth : (job.second.width ≡ 0) ⊎ OrdinatesWithin 500 job.line) where
    other_few : (i : ℕ) → other_in across.first across.second i ≤ 5
    other_few i =
        by_test (ltb i across.first) (λ t. (if t then max 1 across.second else across.first) ≤ 5) (λ _. omega (arith, across.fits.second_few)) (λ _. across.fits.few)

    -- a multiple keeps its side of 0
    times_up : (m : ℕ) {z : ℤ} → pos 0 ≤ℤ z → pos 0 ≤ℤ (pos m *ℤ z)
    times_up m {z} h = subst (λ (x : ℤ). x ≤ℤ (pos m *ℤ z)) (solve 1 (λ m. m ⊗ lit 0 ≐ lit 0) tt (pos m)) (no_better_scale Greatest m (pos 0) z h)

    times_down : (m : ℕ) {z : ℤ} → z ≤ℤ pos 0 → (pos m *ℤ z) ≤ℤ pos 0
    times_down m {z} h = subst (λ (x : ℤ). (pos m *ℤ z) ≤ℤ x) (solve 1 (λ m. m ⊗ lit 0 ≐ lit 0) tt (pos m)) (no_better_scale Least m (pos 0) z h)

    -- by how much a lane's line effects are multiplied, and within what
    lane_near : (i : ℕ) → i < across.lanes → {z : ℤ} (sense : Sense) → z ≡ line_effect job.line kind sense → Within (line_most kind) z → Within (among across.lanes (line_most kind)) (pos (other_in across.first across.second i) *ℤ z)
    lane_near i h {z} sense is near = go tenth
      where
        go : (job.second.width ≡ 0) ⊎ OrdinatesWithin 500 job.line → Within (among across.lanes (line_most kind)) (pos (other_in across.first across.second i) *ℤ z)
        go (inl none) =
            let e : across.second ≡ 0 = on.second ∙ no_second job none in
            let below : i < across.first = omega (arith, across.fits.lanes) in
            let m : other_in across.first across.second i ≡ 1 = rw (lt-ltb i across.first below, e) refl in
            let n : ltb across.lanes 6 ≡ true = lt-ltb across.lanes 6 (omega (arith, across.fits.lanes, across.fits.few)) in
            rw (m, n) (subst (Within (line_most kind)) (solve 1 (λ z. z ≐ lit 1 ⊗ z) tt z) near)
        go (inr near) =
            within_le (within_mul (within_pos 5 (other_few i)) (subst (Within (14000 * 500 + up (axle kind) * (500 + 500))) (sym is) (effect_near 500 job.line near reach kind sense))) (half kind across.lanes)

    pub loads_fit : LoadsFit (line_most kind) across e
    loads_fit = record {
      own = effects_fit;
      each = λ i h. record {
        up = times_up (other_in across.first across.second i) effects_fit.up;
        down = times_down (other_in across.first across.second i) effects_fit.down;
        raising = lane_near i h Raising raised effects_fit.raising;
        lowering = lane_near i h Lowering lowered effects_fit.lowering;
      };
    }

-- what lies across, as it was found
module _ {b : List ℕ} {head : Header} (ready : Ready b head) where
  pub decks_of : {near far : List ℕ} → near ≡ section_of b Transverse → far ≡ section_of b SecondTransverse → DecksOf near far head.width head.second head.spacing (decode b)
  unfolding decode
  decks_of is-near is-far = record {
    deck = subst (λ (h : Header). carriageway (section_of b Transverse) (header_of b).width (header_of b).spacing ≡ carriageway (section_of b Transverse) h.width h.spacing) (sym ready.own) refl ∙ ap (λ (l : List ℕ). carriageway l head.width head.spacing) (sym is-near);
    second = subst (λ (h : Header). carriageway (section_of b SecondTransverse) (header_of b).second (header_of b).spacing ≡ carriageway (section_of b SecondTransverse) h.second h.spacing) (sym ready.own) refl ∙ ap (λ (l : List ℕ). carriageway l head.second head.spacing) (sym is-far);
  }

  -- a question's dynamic factor is the job's
  pub factor_is : (q : Question) {d : ℕ} → d ≡ dynamic_factor head.kind (dynamic_value b head q) → d ≡ (decode b).dynamic q
  unfolding decode
  factor_is q factor = factor ∙ subst (λ (h : Header). dynamic_factor head.kind (dynamic_value b head q) ≡ dynamic_factor h.kind (dynamic_value b h q)) ready.own refl
