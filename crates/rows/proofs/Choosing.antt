-- The governing rows, one row more.
use Rattle.std.specs.Prelude.{if◌then◌else◌, Option, None, Some}
use mathlib.Core.Path.{◌≡◌, refl, sym, ◌∙◌, ap, subst}
use mathlib.Core.Bool.{Bool, true, false}
use Prim.Native.Nat.{ℕ, suc, ◌+◌}
use native.Mathlib.Numerals.{add-one}
use lib.IntN.{ℤ}
use Rattle.exact.specs.Questions.{beats, for_question}
use Rattle.exact.specs.declared.ByQuestion.{ByQuestion}
use Rattle.exact.specs.declared.Question.{Question}
use Rattle.exact.specs.declared.Question.TheVariants.{Greatest, Least}
use Rattle.exact.proofs.Bridge.{by_test}
use Rattle.exact.proofs.Extremes.{by_question}
use Rattle.model.specs.Answers.{State, for_limit}
use Rattle.model.specs.Job.{Effect, Limit, service, ultimate, Live, Row}
use Rattle.model.specs.Rows.{best_row, Governs, later_if_better, is_of, governing}
use Rattle.model.specs.declared.{ByLimit.ByLimit, Governing.Governing}
use Rattle.rows.specs.Governed.{RowRight, governs, governed, better_row, later_rows, with_row, StateRow, StateFound}

-- ---- a question's
module _ (q : Question) (effect : ℕ → Effect) (row : ℕ → Row) (traffic : Live → ℤ) (limit : Limit) (n : ℕ) where
  -- row n + 1 at its best
  abbrev now : Governs
  now = record { value = best_row q effect traffic (row (suc n)); row = suc n }

  -- it is of the state
  governs_row : is_of limit (row (suc n)).limit ≡ true → governs q effect row traffic limit (suc n) ≡ later_if_better q (governs q effect row traffic limit n) now
  unfolding governing
  governs_row t = ap (λ (b : Bool). if b then later_if_better q (governs q effect row traffic limit n) now else governs q effect row traffic limit n) t

  -- it is not
  governs_other : is_of limit (row (suc n)).limit ≡ false → governs q effect row traffic limit (suc n) ≡ governs q effect row traffic limit n
  unfolding governing
  governs_other t = ap (λ (b : Bool). if b then later_if_better q (governs q effect row traffic limit n) now else governs q effect row traffic limit n) t

  module _ (next : Governing) (t : is_of limit (row (suc n)).limit ≡ true) (e : next.row ≡ suc n) (right : RowRight q effect row traffic next) where
    is_next : now ≡ governed next
    is_next = ap (λ (k : ℕ). record { value = best_row q effect traffic (row k); row = k }) (sym e) ∙ ap (λ (z : ℤ). record { value = z; row = next.row }) (sym right.value)

    -- the state's first row
    first_row : governs q effect row traffic limit n ≡ None → StateRow q effect row traffic limit (suc n) next
    first_row before = record { value = governs_row t ∙ ap (λ (o : Option Governs). later_if_better q o now) before ∙ ap Some is_next; right = right }

    -- a later one
    row_more : (sofar : Governing) → StateRow q effect row traffic limit n sofar → StateRow q effect row traffic limit (suc n) (better_row q sofar next)
    row_more sofar s = record {
      value =
          governs_row t ∙ ap (λ (o : Option Governs). later_if_better q o now) s.value ∙ ap (later_if_better q (Some (governed sofar))) is_next
          ∙ by_test (beats q next.value sofar.value) (λ b. (if b then Some (governed next) else Some (governed sofar)) ≡ Some (governed (if b then next else sofar))) (λ _. refl) (λ _. refl);
      right = by_test (beats q next.value sofar.value) (λ b. RowRight q effect row traffic (if b then next else sofar)) (λ _. right) (λ _. s.right);
    }

-- what holds of both limit states holds of each
pub by_limit : (P : Limit → Type 0) → P service → P ultimate → (limit : Limit) → P limit
by_limit P s u service = s
by_limit P s u ultimate = u

-- ---- both questions'
module _ (effect : ℕ → Effect) (row : ℕ → Row) (traffic : Question → Live → ℤ) where
  -- no row yet
  pub found_none : (limit : Limit) → StateFound effect row traffic limit 0 None
  unfolding governing
  found_none limit q = refl

  -- it is row r at its best, for each question
  abbrev pub Its : ℕ → ByQuestion Governing → Type 0
  Its r next = (q : Question) → ((for_question q next).row ≡ r) × RowRight q effect row (traffic q) (for_question q next)

  module _ (n : ℕ) (limit : Limit) where
    found_row : (s : State) (next : ByQuestion Governing) → is_of limit (row (suc n)).limit ≡ true → Its (suc n) next → StateFound effect row traffic limit n s → StateFound effect row traffic limit (suc n) (later_rows s next)
    found_row None next t its f = λ q. first_row q effect row (traffic q) limit n (for_question q next) t (its q).0 (its q).1 (f q)
    found_row (Some x) next t its f =
        by_question _
        (row_more Greatest effect row (traffic Greatest) limit n next.greatest t (its Greatest).0 (its Greatest).1 x.greatest (f Greatest))
        (row_more Least effect row (traffic Least) limit n next.least t (its Least).0 (its Least).1 x.least (f Least))

    found_other : (s : State) → is_of limit (row (suc n)).limit ≡ false → StateFound effect row traffic limit n s → StateFound effect row traffic limit (suc n) s
    found_other None t f = λ q. governs_other q effect row (traffic q) limit n t ∙ f q
    found_other (Some x) t f = λ q. record { value = governs_other q effect row (traffic q) limit n t ∙ (f q).value; right = (f q).right }

  -- each state
  abbrev pub Found : ℕ → ByLimit State → Type 0
  Found n x = (limit : Limit) → StateFound effect row traffic limit n (for_limit limit x)

  found_more : (n : ℕ) (b : Bool) (x : ByLimit State) (next : ByQuestion Governing) → (row (suc n)).limit ≡ (if b then service else ultimate) → Its (suc n) next → Found n x → Found (suc n) (with_row b x next)
  found_more n true x next of its f = by_limit _ (found_row n service x.service next (ap (is_of service) of) its (f service)) (found_other n ultimate x.ultimate (ap (is_of ultimate) of) (f ultimate))
  found_more n false x next of its f = by_limit _ (found_other n service x.service (ap (is_of service) of) (f service)) (found_row n ultimate x.ultimate next (ap (is_of ultimate) of) its (f ultimate))

  -- as the code counts
  pub found_next : (n : ℕ) (b : Bool) (x : ByLimit State) (next : ByQuestion Governing) → (row (n + 1)).limit ≡ (if b then service else ultimate) → Its (n + 1) next → Found n x → Found (n + 1) (with_row b x next)
  found_next n b x next = subst (λ (k : ℕ). (row k).limit ≡ (if b then service else ultimate) → Its k next → Found n x → Found k (with_row b x next)) (sym (add-one n)) (found_more n b x next)
