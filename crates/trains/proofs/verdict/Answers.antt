use mathlib.Core.Path.{◌≡◌, sym, ◌∙◌, ap, ap₂}
use mathlib.Core.Bool.{true}
use Rattle.std.specs.Prelude.{Option, None}
use mathlib.Core.List.{List}
use Prim.Native.Nat.{ℕ}
use native.Mathlib.Omega.{arith}
use lib.ListN.{length}
use Rattle.words.specs.Fields.{misfit}
use Rattle.words.proofs.Fits.{below}
use Rattle.model.specs.Format.{line_layout, ordinate_limit}
use Rattle.model.specs.Refusals.{refuse, signs}
use Rattle.model.specs.Trains.{TrainCall, arguments_fit, train_fault}
use Rattle.model.specs.declared.Axle.{Axle}
use Rattle.model.proofs.Rulings.{passed, refused_by}
use Rattle.model.proofs.TrainLimits.{ArgumentsFit, arguments_fit_lem, fault_place}
use Rattle.model.specs.declared.Edition.{Edition}
use Rattle.model.specs.declared.Edition.TheVariants.{First}
use Rattle.trains.specs.TrainOf.{train_of}
use Rattle.trains.proofs.Verdicts.{refused_2, past_2, handed}
use Rattle.trains.proofs.verdict.Goals as goal

-- what the search of the ordinates finds
search_4 : (s : List ℕ) (n : ℕ) (e : Edition) (m : ℕ) {found : Option ℕ} → found ≡ misfit (line_layout (ordinate_limit e) m) s → e ≡ First → m ≡ n → found ≡ misfit (line_layout (ordinate_limit First) n) s
search_4 s n e m f p q = f ∙ ap₂ (λ (x : Edition) (k : ℕ). misfit (line_layout (ordinate_limit x) k) s) p q

-- an accepted call's arguments
fits : (h pieces : ℕ) (section : List ℕ) (mode room : ℕ) → arguments_fit h pieces (length section) mode room ≡ true → ArgumentsFit h pieces (length section) room
fits h n s m room e = arguments_fit_lem h n (length s) m room e

abbrev call : (h pieces : ℕ) (section : List ℕ) (train : List Axle) (mode : ℕ) → TrainCall
call h n s t m = record { h = h; pieces = n; section = s; train = t; mode = m }

-- the tests that are left after some have passed
module _ (n : ℕ) (s : List ℕ) (h : ℕ) (t : List Axle) where
  abbrev found4 : Option ℕ
  found4 = misfit (line_layout (ordinate_limit First) n) s

  abbrev found5 : Option ℕ
  found5 = misfit (signs n) s

  abbrev found10 : Option ℕ
  found10 = train_fault h t

  after_4 : found4 ≡ None → refuse 4 found4 (refuse 5 found5 (refuse 10 found10 None)) ≡ refuse 5 found5 (refuse 10 found10 None)
  after_4 e = ap (λ (o : Option ℕ). refuse 4 o (refuse 5 found5 (refuse 10 found10 None))) e

  after_5 : found4 ≡ None → found5 ≡ None → refuse 4 found4 (refuse 5 found5 (refuse 10 found10 None)) ≡ refuse 10 found10 None
  after_5 e f = after_4 e ∙ ap (λ (o : Option ℕ). refuse 5 o (refuse 10 found10 None)) f

pub returns-in_default : goal.returns-in_default
returns-in_default c =
    let a = c.args in
    refused_2 (call a.h a.pieces a.line.now (train_of a.g) a.mode) a.room c.in_default.ensures

pub header-requires : goal.header-requires
header-requires c = (fits c.args.h c.args.pieces c.args.line.now c.args.mode c.args.room c.in-Some.ensures.0).few

pub misfit-stray-requires : goal.misfit-stray-requires
misfit-stray-requires c = let f = fits c.args.h c.args.pieces c.args.line.now c.args.mode c.args.room c.in-Some.ensures.0 in (c.header.ensures.0, omega (arith, f.whole, c.header.ensures.2))

pub crossing-crossing-requires : goal.crossing-crossing-requires
crossing-crossing-requires c = let f = fits c.args.h c.args.pieces c.args.line.now c.args.mode c.args.room c.in-Some.ensures.0 in (omega (arith, f.whole), f.few)

pub overflow_cast-h : goal.overflow_cast-h
overflow_cast-h c = record { fits = omega (arith, (fits c.args.h c.args.pieces c.args.line.now c.args.mode c.args.room c.in-Some.ensures.0).length) }

pub train_fault-axle-requires : goal.train_fault-axle-requires
train_fault-axle-requires c = (fits c.args.h c.args.pieces c.args.line.now c.args.mode c.args.room c.in-Some.ensures.0).length.0

pub refuse-requires : goal.refuse-requires
refuse-requires c p e =
    let f = fits c.args.h c.args.pieces c.args.line.now c.args.mode c.args.room c.in-Some.ensures.0 in
    omega (arith, below _ _ p (sym (search_4 c.args.line.now c.args.pieces _ _ c.misfit-stray.ensures c.header.ensures.1 c.header.ensures.2) ∙ e), f.few)

pub refuse-requires-2 : goal.refuse-requires-2
refuse-requires-2 c p e = let f = fits c.args.h c.args.pieces c.args.line.now c.args.mode c.args.room c.in-Some.ensures.0 in omega (arith, below _ _ p (sym c.crossing-crossing.ensures ∙ e), f.few)

pub refuse-requires-3 : goal.refuse-requires-3
refuse-requires-3 c p e = omega (arith, fault_place c.args.h (train_of c.args.g) (sym c.train_fault-axle.ensures ∙ e))

pub returns-in_err-refuse : goal.returns-in_err-refuse
returns-in_err-refuse c =
    let a = c.args in
    let s = search_4 a.line.now a.pieces _ _ c.misfit-stray.ensures c.header.ensures.1 c.header.ensures.2 in
    handed _ _ c.from_residual.ensures.1
    (sym (past_2 (call a.h a.pieces a.line.now (train_of a.g) a.mode) a.room c.in-Some.ensures.0) ∙ refused_by 4 s _ c.in_err-refuse.ensures)

pub returns-in_err-refuse-2 : goal.returns-in_err-refuse-2
returns-in_err-refuse-2 c =
    let a = c.args in
    let t = train_of a.g in
    let s = search_4 a.line.now a.pieces _ _ c.misfit-stray.ensures c.header.ensures.1 c.header.ensures.2 in
    handed _ _ c.from_residual-in_err-refuse-2.ensures.1
    (sym (past_2 (call a.h a.pieces a.line.now t a.mode) a.room c.in-Some.ensures.0)
    ∙ after_4 a.pieces a.line.now a.h t (passed 4 s c.in_ok-refuse.ensures)
    ∙ refused_by 5 c.crossing-crossing.ensures _ c.in_err-refuse-2.ensures)

pub returns-in_err-refuse-3 : goal.returns-in_err-refuse-3
returns-in_err-refuse-3 c =
    let a = c.args in
    let t = train_of a.g in
    let s = search_4 a.line.now a.pieces _ _ c.misfit-stray.ensures c.header.ensures.1 c.header.ensures.2 in
    handed _ _ c.from_residual-in_err-refuse-3.ensures.1
    (sym (past_2 (call a.h a.pieces a.line.now t a.mode) a.room c.in-Some.ensures.0)
    ∙ after_5 a.pieces a.line.now a.h t (passed 4 s c.in_ok-refuse.ensures) (passed 5 c.crossing-crossing.ensures c.in_ok-refuse-2.ensures)
    ∙ refused_by 10 c.train_fault-axle.ensures _ c.in_err-refuse-3.ensures)

pub returns : goal.returns
returns c =
    let a = c.args in
    let t = train_of a.g in
    let s = search_4 a.line.now a.pieces _ _ c.misfit-stray.ensures c.header.ensures.1 c.header.ensures.2 in (
      sym (past_2 (call a.h a.pieces a.line.now t a.mode) a.room c.in-Some.ensures.0)
          ∙ after_5 a.pieces a.line.now a.h t (passed 4 s c.in_ok-refuse.ensures) (passed 5 c.crossing-crossing.ensures c.in_ok-refuse-2.ensures)
          ∙ ap (λ (o : Option ℕ). refuse 10 o None) (passed 10 c.train_fault-axle.ensures c.in_ok-refuse-3.ensures),
      c.in-Some.ensures.1,
    )
