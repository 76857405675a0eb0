-- The answers to a job and to its form: the same in all that is fixed but the records walked, and in every byte of the patch buffer.
use mathlib.Core.Path.{◌≡◌, refl, sym, ◌∙◌, ap, ap₂, subst}
use Rattle.std.specs.Prelude.{Option, None, Some, Ok, Err}
use mathlib.Core.List.{List, [], ◌∷◌, ◌++◌}
use Prim.Native.Nat.{ℕ, suc, ◌-◌, ◌≤◌}
use native.Mathlib.Omega.{arith}
use lib.Dec.{leb}
use lib.ListN.{length, drop}
use Rattle.exact.specs.Choice.{or_else}
use Rattle.exact.specs.Questions.{for_question}
use Rattle.exact.specs.declared.Question.{Question}
use Rattle.exact.specs.declared.Question.TheVariants.{Greatest, Least}
use Rattle.model.specs.Answered.{traffic_in, state_in, RowOf, StateRight, GoverningRight, Accepted, Answered, refused, accepted}
use Rattle.model.specs.Decode.{decode}
use Rattle.model.specs.Determined.{state_numbers, Fixed, fixed_of}
use Rattle.model.specs.Format.{header_of}
use Rattle.model.specs.Job.{InfluenceLine, Limit, service, ultimate, Live, normal, overload, HasTraffic, Job}
use Rattle.model.specs.Lanes.{lanes_of, second_lanes}
use Rattle.model.specs.Line.{patch_bytes}
use Rattle.model.specs.Refusals.{◌finds◌, unless, first_refusal, highway_verdict, fault9, verdict}
use Rattle.model.specs.declared.Refusal.{Refusal}
use Rattle.model.specs.Rows.{Governs}
use Rattle.model.specs.StandardForm.{form}
use Rattle.model.specs.Answers.{State, Answer}
use Rattle.model.specs.declared.Account.{Account}
use Rattle.model.specs.declared.Governing.{Governing}
use Rattle.model.proofs.Determined.{some_not_none, some_injective}
use Rattle.model.proofs.Verdict.{highway_accepted}
use Rattle.forms.proofs.Agreeing.{Same, same_count}
use Rattle.forms.proofs.Standard.{same_sym, listed, says}
use Rattle.forms.proofs.Admitted.{form_accepted}
use Rattle.forms.proofs.Values.{listed_rows, same_but_rows, same_limit, same_line, form_traffic, form_state}

-- a row of a state is one in a job that says the same
row_of_lem : (b c : List ℕ) (okb : highway_verdict b ≡ None) (okc : highway_verdict c ≡ None) → Same b c → (limit : Limit) (r : ℕ) → RowOf (decode b) limit r → RowOf (decode c) limit r
row_of_lem b c okb okc s limit r w =
    let n : r ≤ (header_of b).rows = subst (λ (k : ℕ). r ≤ k) (listed_rows b (listed b okb).listed) w.last in
    let first = w.first in
    let k : suc (r - 1) ≡ r = omega arith in
    record {
      first = w.first;
      last = subst (λ (k : ℕ). r ≤ k) (sym (ap (λ (j : Job). j.rows) (same_but_rows b c okb okc s))) w.last;
      state = subst (λ (n : ℕ). ((decode c).row n).limit ≡ ((decode b).row n).limit) k (same_limit b c okb okc s (r - 1) (omega arith)) ∙ w.state;
    }

-- all that is fixed but the records walked
abbrev pub but_walked : Fixed → Fixed
but_walked x = record { refusal = x.refusal; place = x.place; traffic = x.traffic; service = x.service; ultimate = x.ultimate; first = x.first; second = x.second; walked = 0 }

module _ (b : List ℕ) (ok : highway_verdict b ≡ None) where
  abbrev f : List ℕ
  f = form b

  okf : highway_verdict f ≡ None
  okf = form_accepted b ok

  s : Same b f
  s = says b ok

  -- refusal 9 asks the same of the patch buffer
  same_verdict : (room : ℕ) → verdict f room ≡ verdict b room
  unfolding verdict fault9
  same_verdict room =
      ap₂ (λ (v : Option Refusal) (n : ℕ). or_else v (first_refusal ((9 finds unless (leb n room) n) ∷ []))) ((highway_accepted f okf).1 ∙ sym (highway_accepted b ok).1) (sym (same_count b f s 2 (omega arith)))

  module _ {before after after' : List ℕ} {x y : Account} (r : Accepted (decode b) before x after) (t : Accepted (decode f) before y after') where
    traffic : (q : Question) (live : Live) → HasTraffic live → (for_question q (traffic_in x live)).value ≡ (for_question q (traffic_in y live)).value
    traffic q live h = (r.account.traffic q live h).value ∙ sym (form_traffic b ok q live) ∙ sym (t.account.traffic q live h).value

    governs : {q : Question} {limit : Limit} {g g' : Governing} → GoverningRight (decode b) after x q limit g → GoverningRight (decode f) after' y q limit g' → (g.value ≡ g'.value) × (g.row ≡ g'.row)
    governs {q} {limit} u v = let e = some_injective (sym u.value ∙ sym (form_state b ok q limit) ∙ v.value) in (ap (λ (g : Governs). g.value) e, ap (λ (g : Governs). g.row) e)

    states : (limit : Limit) (p p' : State) → StateRight (decode b) after x limit p → StateRight (decode f) after' y limit p' → state_numbers p ≡ state_numbers p'
    states limit None None u v = refl
    states limit None (Some z) u v = absurd (u z.greatest.row (row_of_lem f b okf ok (same_sym s) limit z.greatest.row v.0.row_of))
    states limit (Some z) None u v = absurd (v z.greatest.row (row_of_lem b f ok okf s limit z.greatest.row u.0.row_of))
    states limit (Some z) (Some w) u v =
        let i = governs u.0 v.0 in
        let j = governs u.1 v.1 in
        rw (i.0, i.1, j.0, j.1) refl

    state : (limit : Limit) → state_numbers (state_in x limit) ≡ state_numbers (state_in y limit)
    state limit = states limit (state_in x limit) (state_in y limit) (r.account.states limit) (t.account.states limit)

    first_lanes : x.first ≡ y.first
    first_lanes = r.account.first_count ∙ sym (ap (λ (j : Job). lanes_of j.deck) (same_but_rows b f ok okf s)) ∙ sym t.account.first_count

    second_lanes_same : x.second ≡ y.second
    unfolding second_lanes
    second_lanes_same = r.account.second_count ∙ sym (ap second_lanes (same_but_rows b f ok okf s)) ∙ sym t.account.second_count

    same_answers : (but_walked (fixed_of (Ok x)) ≡ but_walked (fixed_of (Ok y))) × (after ≡ after')
    unfolding fixed_of
    same_answers = (
      rw (traffic Greatest normal tt, traffic Least normal tt, traffic Greatest overload tt, traffic Least overload tt, state service, state ultimate, first_lanes, second_lanes_same) refl,
      r.patch ∙ ap (λ (l : InfluenceLine). patch_bytes l ++ drop l.pieces before) (sym (same_line b f ok okf s)) ∙ sym t.patch,
    )

  -- a job and its form are answered alike: values, governing rows, lanes, refusal 9 of the patch buffer, patch bytes
  pub form_answered : {before after after' : List ℕ} {x y : Answer} → Answered b before x after → Answered f before y after' → (but_walked (fixed_of x) ≡ but_walked (fixed_of y)) × (after ≡ after')
  form_answered {before} (refused p e u k) (refused q g v l) = (ap (λ (z : Answer). but_walked (fixed_of z)) (u ∙ ap Err (some_injective (sym e ∙ sym (same_verdict (length before)) ∙ g)) ∙ sym v), k ∙ sym l)
  form_answered {before} (refused p e u k) (accepted g c v t) = absurd (some_not_none (sym e ∙ sym (same_verdict (length before)) ∙ g))
  form_answered {before} (accepted e a u r) (refused q g v l) = absurd (some_not_none (sym g ∙ same_verdict (length before) ∙ e))
  form_answered (accepted e a u r) (accepted g c v t) = rw (u, v) (same_answers r t)
