-- What the program prints of a job.
use Rattle.std.specs.Prelude.{◌≡◌, List, ℕ, replicate}
use Rattle.model.specs.Answered.{Answered}
use Rattle.model.specs.Answers.{Answer}
use Rattle.print.specs.Text.{answer_text}

-- the text of an answer as the kernel gives it, with a patch buffer of 1000 bytes, one for each piece of the longest line
pub record Printed (job text : List ℕ) : Type 0 where
  pub answer : Answer
  pub patch : List ℕ
  pub answered : Answered job (replicate 1000 0) answer patch
  pub is : text ≡ answer_text answer
