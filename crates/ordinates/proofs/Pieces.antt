-- The pieces of a line as refusals 4 and 5 test them.
use Rattle.std.specs.Prelude.{if◌then◌else◌, None, Some}
use mathlib.Core.Path.{◌≡◌, refl, ap}
use mathlib.Core.Bool.{Bool, not}
use mathlib.Core.List.{List}
use Prim.Native.Nat.{ℕ, ◌+◌, ◌*◌}
use native.Mathlib.Nat.{add-zero}
use native.Mathlib.Omega.{arith}
use lib.IntN.{pos}
use lib.ListN.{length}
use Rattle.exact.proofs.Bridge.{by_test}
use Rattle.words.specs.Words.{word_at}
use Rattle.words.specs.Fields.{moved, item_misfit, misfit}
use Rattle.model.specs.Format.{ordinate_limit, format, size, bytes}
use Rattle.model.specs.Refusals.{crosses, signs}
use Rattle.model.specs.declared.Header.{Header}
use Rattle.model.specs.declared.Part.TheVariants.{Line}
use Rattle.ordinates.specs.Lines.{AllWithin, NoneCrosses}
use Rattle.limits.proofs.Scans.{answer_none}

-- a piece by the test of refusal 5, of known answer
pub piece : (n : ℕ) (s : List ℕ) (i : ℕ) {t : Bool} → crosses (word_at s (size Line * i)) (word_at s (size Line * i + 1)) ≡ t → item_misfit (signs n).fields s i ≡ (if t then Some (size Line * i) else None)
piece n s i {t} e =
    rw (add-zero (size Line * i), e)
    (by_test t (λ t. moved (size Line * i) (if not t then None else Some 0) ≡ (if t then Some (size Line * i) else None)) (λ _. ap Some (add-zero (size Line * i))) (λ _. refl))

-- where none crosses, refusal 5 finds nothing
pub none_crossing : (s : List ℕ) (n : ℕ) → NoneCrosses s n → misfit (signs n) s ≡ None
unfolding misfit
none_crossing s n h = answer_none 0 n (item_misfit (signs n).fields s) (λ i _ l. piece n s i (h i (omega arith)))

-- where all ordinates are within their limits, refusal 4 finds nothing
pub all_within : (head : Header) (s : List ℕ) → length s ≡ bytes Line * head.pieces → AllWithin s (pos (ordinate_limit head.edition)) → misfit (format head Line) s ≡ None
unfolding misfit
all_within head s e h = answer_none 0 head.pieces (item_misfit (format head Line).fields s) (λ i _ l. rw (add-zero (size Line * i), h (size Line * i) (omega arith), h (size Line * i + 1) (omega arith)) refl)
