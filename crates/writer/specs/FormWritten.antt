-- What the call that writes a job's standard form ensures: one refusal, or the form and its length.
use Rattle.std.specs.Prelude.{ℕ, ◌≤◌, ◌<◌, ◌≡◌, List, [], ◌∷◌, ◌++◌, ℤ, pos, length, drop, None, Some}
use Rattle.buffer.specs.Stored.{cleared}
use Rattle.numbers.specs.NumberBytes.{numbers_bytes, ReadBack}
use Rattle.model.specs.{declared.Refusal.Refusal, Refusals.packed, StandardForm.form, StandardForm.write_verdict}

-- how many bytes the report has, one number
abbrev pub length_size : ℕ
length_size = 8

-- the report: the form's length in bytes
abbrev pub length_numbers : List ℕ → List ℤ
length_numbers job = pos (length (form job)) ∷ []

-- the call's job, its output and report buffers before, its result, and the buffers after
pub data FormWritten (job out report : List ℕ) (result : ℕ) (outAfter reportAfter : List ℕ) : Type 0 where
  -- a report buffer under a report's size, whatever the job: refusal 2 at place 0
  short : length report < length_size → result ≡ packed 2 0 → outAfter ≡ out → reportAfter ≡ cleared length_size report → FormWritten job out report result outAfter reportAfter
  -- a refusal: the output buffer is as before, the report zero, bytes past it as before
  refused : length_size ≤ length report → (r : Refusal) → write_verdict job (length out) ≡ Some r → result ≡ packed r.number r.place →
      outAfter ≡ out → reportAfter ≡ cleared length_size report → FormWritten job out report result outAfter reportAfter
  -- else the form in front of the output buffer, bytes past it as before; and the report, whose number the host reads
  written : length_size ≤ length report → write_verdict job (length out) ≡ None → result ≡ packed 0 0 → outAfter ≡ form job ++ drop (length (form job)) out →
      reportAfter ≡ numbers_bytes (length_numbers job) ++ drop length_size report → ReadBack reportAfter (length_numbers job) → FormWritten job out report result outAfter reportAfter
