-- An accepted job has no fault of any number.
use mathlib.Core.Path.{◌≡◌, refl, sym, ◌∙◌, ap, subst}
use mathlib.Core.Bool.{Bool, true, false, ◌&&◌, and-eq-true_iff}
use Rattle.std.specs.Prelude.{Option, None, Some}
use Rattle.std.proofs.lemmas.Option.{none-some}
use mathlib.Core.List.{List, [], ◌∷◌}
use Prim.Native.Nat.{ℕ, zero, suc, ◌+◌, ◌*◌, ◌/◌, ◌%◌, ◌≤◌, ◌<◌}
use native.Mathlib.Omega.{arith}
use lib.Dec.{eqb, leb}
use lib.ListN.{length, get_or}
use borrow.Author.Tests.{eqb-true, leb-true, le-leb, lt-leb}
use Rattle.exact.specs.Choice.{or_else}
use Rattle.words.specs.Words.{word_at}
use Rattle.model.specs.Format.{profile_of, EffectUnit, kilonewtons, newtons, header_of, is, edition_number, table_counts, effect_fields, words, start, words_due, bytes, effect_size}
use Rattle.model.specs.Job.{Profile, highway, rural}
use Rattle.model.specs.Refusals.{Test, ◌finds◌, first_refusal, job_tests, unless, fault1, fault2, fault3, fault4, fault5, fault6, fault7, fault8, fault9, fault11, refuse, job_verdict, rural_fault, highway_verdict, verdict}
use Rattle.model.specs.declared.Refusal.{Refusal}
use Rattle.model.specs.StandardForm.{form, fault12, write_verdict}
use Rattle.model.specs.declared.Edition.{Edition}
use Rattle.model.specs.declared.Edition.TheVariants.{First, Second, Third, Fourth}
use Rattle.model.specs.declared.Header.{Header}
use Rattle.model.specs.declared.Part.{Part}
use Rattle.model.specs.declared.Part.TheVariants.{Head, Line, Transverse, SecondTransverse, Effects, Rows, Records}

refuse_none : (n : ℕ) (f : Option ℕ) (higher : Option Refusal) → refuse n f higher ≡ None → (f ≡ None) × (higher ≡ None)
refuse_none n None higher e = (refl, e)
refuse_none n (Some p) higher e = absurd (none-some _ (sym e))

-- where nothing is found, the test holds
pub unless_none : (t : Bool) (place : ℕ) → unless t place ≡ None → t ≡ true
unless_none true place e = refl
unless_none false place e = absurd (none-some _ (sym e))

-- no test at all
abbrev pub no_test : Test
no_test = 0 finds None

-- where no test refuses, none finds a place
pub all_clear : (tests : List Test) → first_refusal tests ≡ None → (k : ℕ) → (get_or tests k no_test).found ≡ None
all_clear [] e k = refl
all_clear (t ∷ rest) e zero = (refuse_none t.number t.found _ e).0
all_clear (t ∷ rest) e (suc k) = all_clear rest (refuse_none t.number t.found _ e).1 k

-- no number finds a fault
pub record Clear (b : List ℕ) : Type 0 where
  pub c1 : fault1 b ≡ None
  pub c2 : fault2 b ≡ None
  pub c11 : fault11 b ≡ None
  pub c3 : fault3 b ≡ None
  pub c4 : fault4 b ≡ None
  pub c5 : fault5 b ≡ None
  pub c6 : fault6 b ≡ None
  pub c7 : fault7 b ≡ None
  pub c8 : fault8 b ≡ None

-- an accepted job has no fault of any number
pub clear : (b : List ℕ) → job_verdict b ≡ None → Clear b
unfolding job_verdict job_tests
clear b e = let c = all_clear (job_tests b) e in record { c1 = c 0; c2 = c 1; c11 = c 2; c3 = c 3; c4 = c 4; c5 = c 5; c6 = c 6; c7 = c 7; c8 = c 8 }

-- ---- calls that take no rural bridge's job
module _ (b : List ℕ) where
  -- one that lists its rows gets the job's verdict
  pub highway_verdict_lem : profile_of (header_of b).edition ≡ highway → highway_verdict b ≡ job_verdict b
  unfolding highway_verdict job_verdict
  highway_verdict_lem e = ap (λ p. refuse 1 (rural_fault p) (first_refusal (job_tests b))) e

  -- and a rural bridge's 1 at place 0
  pub rural_verdict : profile_of (header_of b).edition ≡ rural → highway_verdict b ≡ Some (record { number = 1; place = 0 })
  unfolding highway_verdict
  rural_verdict e = ap (λ p. refuse 1 (rural_fault p) (first_refusal (job_tests b))) e

  -- what they accept is an accepted job that lists its rows
  pub highway_accepted : highway_verdict b ≡ None → (profile_of (header_of b).edition ≡ highway) × (job_verdict b ≡ None)
  highway_accepted e = go (profile_of (header_of b).edition) refl
    where
      go : (p : Profile) → profile_of (header_of b).edition ≡ p → (profile_of (header_of b).edition ≡ highway) × (job_verdict b ≡ None)
      go highway h = (h, sym (highway_verdict_lem h) ∙ e)
      go rural h = absurd (none-some _ (sym e ∙ rural_verdict h))

-- ---- 1 and 3: the size
-- a header has ten words or more
counts_size : (e : Edition) → (3 ≤ length (table_counts e)) × (length (table_counts e) ≤ 6)
counts_size First = omega arith
counts_size Second = omega arith
counts_size Third = omega arith
counts_size Fourth = omega arith

pub header_long : (head : Header) → bytes Head ≤ 4 * words head Head
header_long head = omega (arith, (counts_size head.edition).0)

-- and at most thirteen
pub header_short : (head : Header) → words head Head ≤ 13
header_short head = omega (arith, (counts_size head.edition).1)

-- a header of an edition among n bytes has that edition's words there
pub edition_words : (head : Header) {e : Edition} {n : ℕ} → head.edition ≡ e → 4 * words head Head ≤ n → 4 * (7 + length (table_counts e)) ≤ n
edition_words head {n = n} e h = subst (λ (e : Edition). 4 * (7 + length (table_counts e)) ≤ n) e (omega arith)

-- an effect has its unit's words, two or three
pub effect_size_lem : (u : EffectUnit) (p : Profile) → length (effect_fields u p) ≡ effect_size u
effect_size_lem kilonewtons p = refl
effect_size_lem newtons p = refl

pub two_or_three : (u : EffectUnit) → (2 ≤ effect_size u) × (effect_size u ≤ 3)
two_or_three kilonewtons = omega arith
two_or_three newtons = omega arith

module _ (b : List ℕ) (e : fault1 b ≡ None) where
  -- a job without fault 1 has its header's bytes, and a whole number of words
  framed : (4 * words (header_of b) Head ≤ length b) × (length b % 4 ≡ 0)
  unfolding fault1
  framed =
      let n = 4 * words (header_of b) Head in
      let t = (and-eq-true_iff (leb n (length b) && eqb (length b % 4) 0) (is (edition_number (header_of b).edition) (word_at b 0))).0 (unless_none _ 0 e) in
      let u = (and-eq-true_iff (leb n (length b)) (eqb (length b % 4) 0)).0 t.0 in
      (leb-true n (length b) u.0, eqb-true (length b % 4) 0 u.1)

  pub has_header : 4 * words (header_of b) Head ≤ length b
  has_header = framed.0

  -- a job without fault 1 or 3 has the bytes that its header calls for
  pub size_fits : fault3 b ≡ None → length b ≡ 4 * words_due (header_of b)
  unfolding fault3
  size_fits f =
      let rest = framed.1 in
      let due = eqb-true (length b / 4) (words_due (header_of b)) (unless_none _ (words_due (header_of b)) f) in
      omega arith

-- every part is in such a job
pub part_inside : (b : List ℕ) → length b ≡ 4 * words_due (header_of b) → (part : Part) → 4 * (start (header_of b) part + words (header_of b) part) ≤ length b
part_inside b e Head = omega arith
part_inside b e Line = omega arith
part_inside b e Transverse = omega arith
part_inside b e SecondTransverse = omega arith
part_inside b e Effects = omega arith
part_inside b e Rows = omega arith
part_inside b e Records = omega arith

-- ---- a buffer of the host's
-- a verdict, and where it accepts, refusal n at place m unless the host's buffer of so many bytes has m
abbrev lent : Option Refusal → (n m room : ℕ) → Option Refusal
lent v n m room = or_else v (first_refusal ((n finds unless (leb m room) m) ∷ []))

module _ {v : Option Refusal} (n m room : ℕ) where
  lent_refuses : {r : Refusal} → v ≡ Some r → lent v n m room ≡ Some r
  lent_refuses e = ap (λ w. lent w n m room) e

  lent_short : v ≡ None → room < m → lent v n m room ≡ Some (record { number = n; place = m })
  lent_short e h = ap (λ w. lent w n m room) e ∙ ap (λ t. refuse n (unless t m) None) (lt-leb m room h)

  lent_long : v ≡ None → m ≤ room → lent v n m room ≡ None
  lent_long e h = ap (λ w. lent w n m room) e ∙ ap (λ t. refuse n (unless t m) None) (le-leb m room h)

lent_accepted : (v : Option Refusal) (n m room : ℕ) → lent v n m room ≡ None → v ≡ None
lent_accepted None n m room e = refl
lent_accepted (Some r) n m room e = absurd (none-some _ (sym e))

-- 9: the patch buffer holds a byte a piece
module _ (b : List ℕ) (patch : ℕ) where
  abbrev pieces : ℕ
  pieces = (header_of b).pieces

  -- a job's own refusal is the call's
  pub job_refuses : {r : Refusal} → job_verdict b ≡ Some r → verdict b patch ≡ Some r
  unfolding verdict fault9
  job_refuses e = lent_refuses 9 pieces patch e

  -- a buffer that is too short is refused
  pub short_refused : job_verdict b ≡ None → patch < pieces → verdict b patch ≡ Some (record { number = 9; place = pieces })
  unfolding verdict fault9
  short_refused e h = lent_short 9 pieces patch e h

  -- and one that is not is accepted with the job
  pub long_accepted : job_verdict b ≡ None → pieces ≤ patch → verdict b patch ≡ None
  unfolding verdict fault9
  long_accepted e h = lent_long 9 pieces patch e h

  -- so the call accepts only what the job's verdict accepts
  pub job_accepted : verdict b patch ≡ None → job_verdict b ≡ None
  unfolding verdict fault9
  job_accepted e = lent_accepted (job_verdict b) 9 pieces patch e

-- 12: the output buffer holds the form
module _ (b : List ℕ) (room : ℕ) where
  pub write_refuses : {r : Refusal} → highway_verdict b ≡ Some r → write_verdict b room ≡ Some r
  unfolding write_verdict fault12
  write_refuses e = lent_refuses 12 (length (form b)) room e

  pub form_refused : highway_verdict b ≡ None → room < length (form b) → write_verdict b room ≡ Some (record { number = 12; place = length (form b) })
  unfolding write_verdict fault12
  form_refused e h = lent_short 12 (length (form b)) room e h

  pub form_holds : highway_verdict b ≡ None → length (form b) ≤ room → write_verdict b room ≡ None
  unfolding write_verdict fault12
  form_holds e h = lent_long 12 (length (form b)) room e h

  pub write_accepted : write_verdict b room ≡ None → highway_verdict b ≡ None
  unfolding write_verdict fault12
  write_accepted e = lent_accepted (highway_verdict b) 12 (length (form b)) room e
