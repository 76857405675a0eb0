-- What a host may conclude from the result of a call that writes a form.
use mathlib.Core.Path.{◌≡◌, sym, ◌∙◌, ap}
use mathlib.Core.Logic.{◌↔◌}
use Rattle.std.specs.Prelude.{None, Some}
use mathlib.Core.List.{List, ◌++◌}
use Prim.Native.Nat.{ℕ, ◌/◌, ◌%◌}
use native.Mathlib.Omega.{arith}
use lib.ListN.{length, take, drop}
use lib.Seq.{take-append_seam}
use Rattle.model.specs.Refusals.{packed}
use Rattle.model.specs.declared.Refusal.{Refusal}
use Rattle.model.specs.StandardForm.{AreBytes, Agree, form, write_verdict}
use Rattle.model.proofs.Determined.{some_not_none, some_injective}
use Rattle.model.proofs.RefusalNumbers.{write_number_small}
use Rattle.model.proofs.Verdict.{write_accepted}
use Rattle.forms.proofs.Standard.{form_exact}
use Rattle.writer.specs.FormWritten.{FormWritten, short, refused, written}

-- number and place come apart again, as the header takes them
pub taken_apart : (job : List ℕ) (room : ℕ) (r : Refusal) → write_verdict job room ≡ Some r → (packed r.number r.place % 256 ≡ r.number) × (packed r.number r.place / 256 ≡ r.place)
taken_apart job room r e = let s = write_number_small job room e in omega arith

-- 0 is a form written, and only that: it is at the front of the buffer, the rest as before
pub zero_writes : {job out report o p : List ℕ} → FormWritten job out report 0 o p → (write_verdict job (length out) ≡ None) × (o ≡ form job ++ drop (length (form job)) out)
zero_writes (short l e o p) = absurd (omega arith)
zero_writes {job} {out} (refused l r v e o p) = let s = write_number_small job (length out) v in absurd (omega (arith, e))
zero_writes (written l v e o p k) = (v, o)

-- the same call gives the same result and the same bytes
pub same_written : {job out report o o' p p' : List ℕ} {m n : ℕ} → FormWritten job out report m o p → FormWritten job out report n o' p' → (m ≡ n) × (o ≡ o') × (p ≡ p')
same_written (short l e o p) (short l' e' o' p') = (e ∙ sym e', o ∙ sym o', p ∙ sym p')
same_written (short l e o p) (refused l' r v e' o' p') = absurd (omega arith)
same_written (short l e o p) (written l' v e' o' p' k) = absurd (omega arith)
same_written (refused l r v e o p) (short l' e' o' p') = absurd (omega arith)
same_written (refused l r v e o p) (refused l' s w e' o' p') = (e ∙ ap (λ (x : Refusal). packed x.number x.place) (some_injective (sym v ∙ w)) ∙ sym e', o ∙ sym o', p ∙ sym p')
same_written (refused l r v e o p) (written l' w e' o' p' k) = absurd (some_not_none (sym v ∙ w))
same_written (written l v e o p k) (short l' e' o' p') = absurd (omega arith)
same_written (written l v e o p k) (refused l' s w e' o' p') = absurd (some_not_none (sym w ∙ v))
same_written (written l v e o p k) (written l' w e' o' p' k') = (e ∙ sym e', o ∙ sym o', p ∙ sym p')

-- two calls that write: their jobs agree exactly when what they write is the same
pub same_job : {b c out out' report report' o o' p p' : List ℕ} → AreBytes b → AreBytes c → FormWritten b out report 0 o p → FormWritten c out' report' 0 o' p' → Agree b c ↔ (take (length (form b)) o ≡ take (length (form c)) o')
same_job {b} {c} {out} {out'} bb bc x y =
    let u = zero_writes x in
    let v = zero_writes y in
    let front : take (length (form b)) _ ≡ form b = ap (take (length (form b))) u.1 ∙ take-append_seam (form b) (drop (length (form b)) out) in
    let front' : take (length (form c)) _ ≡ form c = ap (take (length (form c))) v.1 ∙ take-append_seam (form c) (drop (length (form c)) out') in
    let exact = form_exact b c bb bc (write_accepted b _ u.0) (write_accepted c _ v.0) in
    (λ a. front ∙ exact.0 a ∙ sym front', λ e. exact.1 (sym front ∙ e ∙ front'))
