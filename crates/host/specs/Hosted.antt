-- What the entry for C hosts ensures: the answer of the kernel, its account as bytes, its refusal and place as one number.
use Rattle.std.specs.Prelude.{ℕ, ◌≤◌, ◌<◌, ◌≡◌, List, ◌++◌, length, drop}
use Rattle.model.specs.Refusals.{packed}
use Rattle.model.specs.Answers.{Answer}
use Rattle.model.specs.Answered.{Answered, number_in, place_in, account_in}
use Rattle.buffer.specs.Stored.{cleared}
use Rattle.numbers.specs.NumberBytes.{ReadBack}
use Rattle.encode.specs.Encoding.{account_size, account_numbers, account_bytes}

-- the call's job, its patch and account buffers before, its result, and the buffers after
pub data Hosted (job patch account : List ℕ) (result : ℕ) (patchAfter accountAfter : List ℕ) : Type 0 where
  -- an account buffer under an account's size, whatever the job: refusal 2 at place 0, the buffer cleared, the patch buffer as before
  short : length account < account_size → result ≡ packed 2 0 → patchAfter ≡ patch → accountAfter ≡ cleared account_size account → Hosted job patch account result patchAfter accountAfter
  -- else an answer as the kernel gives it; its account's bytes in front, those past them as before; and the host reads the account's numbers
  answered : account_size ≤ length account → (answer : Answer) → Answered job patch answer patchAfter → result ≡ packed (number_in answer) (place_in answer) →
      accountAfter ≡ account_bytes (account_in answer) ++ drop account_size account → ReadBack accountAfter (account_numbers (account_in answer)) →
      Hosted job patch account result patchAfter accountAfter
