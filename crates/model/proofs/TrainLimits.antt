-- What a call for a train that is not refused gives: its arguments within their limits, a line without a fault, and axles within their limits, none past the last.
use Rattle.std.specs.Prelude.{if◌then◌else◌, Option, None, Some}
use mathlib.Core.Path.{sym, ◌≡◌, refl}
use mathlib.Core.Bool.{Bool, true, false, ◌&&◌, and-eq-true_iff}
use Rattle.std.proofs.lemmas.Option.{none-some, same_Some}
use mathlib.Core.List.{List, [], ◌∷◌}
use Prim.Native.Nat.{ℕ, zero, suc, ◌+◌, ◌-◌, ◌*◌, ◌/◌, ◌%◌, ◌≤◌, ◌<◌}
use native.Mathlib.Nat.{div-eq_of_lt}
use native.Mathlib.Decide.{dec_le}
use native.Mathlib.Omega.{arith}
use lib.Dec.{leb, eqb}
use lib.IntN.{pos, ◌*ℤ◌}
use lib.Signed.{le_z}
use lib.ListN.{length}
use borrow.Author.Tests.{leb-true, eqb-true, le-leb, lt-leb}
use Rattle.exact.specs.Choice.{between}
use Rattle.exact.proofs.Bridge.{by_test}
use Rattle.words.specs.Fields.{admits, first_answer, misfit}
use Rattle.words.proofs.Fits.{answer_each, answer_one}
use Rattle.model.specs.Format.{bytes, piece_length, piece_count, line_layout, ordinate_limit}
use Rattle.model.specs.Refusals.{unless, signs}
use Rattle.model.specs.Trains.{axle_at, train_length, TrainCall, report_size, arguments_fit, in_order, axle_fits, train_fault, train_tests, train_verdict}
use Rattle.model.specs.declared.Axle.{Axle}
use Rattle.model.specs.declared.Edition.TheVariants.{First}
use Rattle.model.specs.declared.Part.TheVariants.{Line}
use Rattle.model.proofs.Counts.{one_of_lem, between_count}
use Rattle.model.proofs.HeaderLimits.{whole_spacing}
use Rattle.model.proofs.Verdict.{unless_none, all_clear}

-- ---- 2: the arguments
-- h in dm
pub length_range : (h : ℕ) → admits piece_length (pos h) ≡ true → (1 ≤ h) × (h ≤ 50)
length_range h e =
    let w = whole_spacing h (one_of_lem (1 ∷ 2 ∷ 5 ∷ 10 ∷ 25 ∷ 50 ∷ []) (record { number = 0; word = λ j. pos 0 }) (pos h) e).0 in
    (w.0, elim (dec_le h 50) [ yes l ↦ l | no l ↦ let z : 50 / h ≡ 0 = div-eq_of_lt (omega arith) in absurd (omega (arith, rw z at w.1)) ])

-- N
pub pieces_most_lem : (h n : ℕ) → admits (piece_count (pos h)) (pos n) ≡ true → n ≤ 1000
pieces_most_lem h n e = (between_count 1 1000 (pos n) ((and-eq-true_iff (between (pos 1) (pos 1000) (pos n)) (le_z (pos n *ℤ pos h) (pos 1000))).0 e).0).most

-- what the test of the arguments tells
pub record ArgumentsFit (h pieces section room : ℕ) : Type 0 where
  pub length : (1 ≤ h) × (h ≤ 50)
  pub few : pieces ≤ 1000
  pub whole : section ≡ bytes Line * pieces
  pub holds : report_size ≤ room

pub arguments_fit_lem : (h pieces section mode room : ℕ) → arguments_fit h pieces section mode room ≡ true → ArgumentsFit h pieces section room
unfolding arguments_fit
arguments_fit_lem h n s m room e =
    let l = admits piece_length (pos h) in
    let p = admits (piece_count (pos h)) (pos n) in
    let w = eqb s (bytes Line * n) in
    let k = (and-eq-true_iff (l && p && w && (leb 1 m && leb m 2)) (leb report_size room)).0 e in
    let j = (and-eq-true_iff (l && p) w).0 ((and-eq-true_iff (l && p && w) (leb 1 m && leb m 2)).0 k.0).0 in
    let i = (and-eq-true_iff l p).0 j.0 in
    record { length = length_range h i.0; few = pieces_most_lem h n i.1; whole = eqb-true _ _ j.1; holds = leb-true _ _ k.1 }

-- ---- 10: the train
-- an axle after the first, as the code counts
pub later_axle : (t : List Axle) (i : ℕ) → ¬ (i ≡ 0) → in_order t i ≡ leb (axle_at t (i - 1)).at (axle_at t i).at
later_axle t zero h = absurd (h refl)
later_axle t (suc i) h = let e : suc i - 1 ≡ i = omega arith in rw e refl

-- what the test of an axle tells
pub record AxleFits (t : List Axle) (i : ℕ) : Type 0 where
  pub load : (axle_at t i).load ≤ 400
  pub near : (axle_at t i).at ≤ 500
  pub order : in_order t i ≡ true

axle_fits_lem : (h : ℕ) (t : List Axle) (i : ℕ) → axle_fits h t i ≡ true → AxleFits t i
unfolding axle_fits
axle_fits_lem h t i e =
    let a = axle_at t i in
    let p = ((and-eq-true_iff (leb 1 a.load && leb a.load 400 && leb a.at 500 && in_order t i) (eqb (a.at % h) 0)).0 e).0 in
    let q = (and-eq-true_iff (leb 1 a.load && leb a.load 400 && leb a.at 500) (in_order t i)).0 p in
    let r = (and-eq-true_iff (leb 1 a.load && leb a.load 400) (leb a.at 500)).0 q.0 in
    record { load = leb-true _ _ ((and-eq-true_iff (leb 1 a.load) (leb a.load 400)).0 r.0).1; near = leb-true _ _ r.1; order = q.1 }

-- the number of axles and the search, from the fault
abbrev few : List Axle → Bool
few t = leb 1 (length t) && leb (length t) 12

abbrev search_axles : ℕ → List Axle → Option ℕ
search_axles h t = first_answer 0 (length t) (λ i. unless (axle_fits h t i) (suc i))

module _ (h : ℕ) (t : List Axle) where
  pub no_axles : length t < 1 → train_fault h t ≡ Some 0
  unfolding train_fault
  no_axles l = rw (lt-leb 1 (length t) l) refl

  pub many_axles : 12 < length t → train_fault h t ≡ Some 0
  unfolding train_fault
  many_axles l = rw (le-leb 1 (length t) (omega arith), lt-leb (length t) 12 l) refl

  pub some_axles : 1 ≤ length t → length t ≤ 12 → train_fault h t ≡ first_answer 0 (length t) (λ i. unless (axle_fits h t i) (suc i))
  unfolding train_fault
  some_axles l m = rw (le-leb 1 (length t) l, le-leb (length t) 12 m) refl

module _ (h : ℕ) (t : List Axle) (clear : train_fault h t ≡ None) where
  tested : (few t ≡ true) × (search_axles h t ≡ None)
  unfolding train_fault
  tested = by_test (few t) (λ b. (if b then search_axles h t else Some 0) ≡ None → (b ≡ true) × (search_axles h t ≡ None)) (λ _ e. (refl, e)) (λ _ e. absurd (none-some _ (sym e))) clear

  each : (i : ℕ) → i < length t → AxleFits t i
  each i l = axle_fits_lem h t i (unless_none _ (suc i) (answer_each 0 (length t) (λ i. unless (axle_fits h t i) (suc i)) tested.1 i (omega arith) (omega arith)))

  -- 1 to 12 axles
  pub axle_count : (1 ≤ length t) × (length t ≤ 12)
  axle_count = let p = (and-eq-true_iff (leb 1 (length t)) (leb (length t) 12)).0 tested.0 in (leb-true _ _ p.0, leb-true _ _ p.1)

  -- each of at most 400 kN
  pub axle_load : (i : ℕ) → i < length t → (axle_at t i).load ≤ 400
  axle_load i l = (each i l).load

  -- none before one before it
  ordered : (i k : ℕ) → i + k < length t → (axle_at t i).at ≤ (axle_at t (i + k)).at
  ordered i zero l = let e : i + 0 ≡ i = omega arith in rw e (omega arith)
  ordered i (suc k) l =
      let e : i + suc k ≡ suc (i + k) = omega arith in
      let before = ordered i k (omega arith) in
      let next = leb-true (axle_at t (i + k)).at (axle_at t (suc (i + k))).at (each (suc (i + k)) (omega arith)).order in
      rw e (omega arith)

  -- none past the last
  pub axle_inside : (i : ℕ) → i < length t → (axle_at t i).at ≤ train_length t
  axle_inside i l = let e : i + (length t - 1 - i) ≡ length t - 1 = omega arith in rw e at (ordered i (length t - 1 - i) (omega arith))

  -- which is at most 50 m from the first
  pub train_short : train_length t ≤ 500
  train_short = let n = axle_count.0 in (each (length t - 1) (omega arith)).near

-- a place is an axle's number, or 0
pub fault_place : (h : ℕ) (t : List Axle) {p : ℕ} → train_fault h t ≡ Some p → p ≤ 12
unfolding train_fault
fault_place h t {p} = by_test (few t) (λ b. (if b then search_axles h t else Some 0) ≡ Some p → p ≤ 12)
    (λ b e.
    let n : length t ≤ 12 = leb-true _ _ ((and-eq-true_iff (leb 1 (length t)) (leb (length t) 12)).0 b).1 in
    let a = answer_one 0 (length t) (λ i. unless (axle_fits h t i) (suc i)) p e in
    let q = place (axle_fits h t a.0) a.0 a.2 in
    omega (arith, a.1))
    (λ _ e. let q = same_Some 0 p e in omega arith)
  where
    place : (b : Bool) (i : ℕ) → unless b (suc i) ≡ Some p → p ≡ suc i
    place true i e = absurd (none-some p e)
    place false i e = let q = same_Some (suc i) p e in omega arith

-- ---- the verdict
-- no number finds a fault
pub record CallClear (c : TrainCall) (room : ℕ) : Type 0 where
  pub arguments : ArgumentsFit c.h c.pieces (length c.section) room
  pub ordinates : misfit (line_layout (ordinate_limit First) c.pieces) c.section ≡ None
  pub sided : misfit (signs c.pieces) c.section ≡ None
  pub train : train_fault c.h c.train ≡ None

pub call_clear : (c : TrainCall) (room : ℕ) → train_verdict c room ≡ None → CallClear c room
unfolding train_verdict train_tests
call_clear c room e =
    let f = all_clear (train_tests c room) e in
    record { arguments = arguments_fit_lem c.h c.pieces (length c.section) c.mode room (unless_none _ 0 (f 0)); ordinates = f 1; sided = f 2; train = f 3 }
