-- What is asked of a job before its form is written, and the front of the form.
use Rattle.std.specs.Prelude.{◌≡◌, List, ◌++◌, ℕ, None}
use Rattle.model.specs.Format.{header_of}
use Rattle.model.specs.Refusals.{highway_verdict}
use Rattle.model.specs.StandardForm.{form_part}
use Rattle.model.specs.declared.Header.{Header}
use Rattle.model.specs.declared.Part.TheVariants.{Head, Line, Transverse, SecondTransverse, Effects}

-- the job is accepted, and the header is its own
pub record Writable (b : List ℕ) (head : Header) : Type 0 where
  pub own : head ≡ header_of b
  pub accepted : highway_verdict b ≡ None

-- the form's parts before the rows
abbrev pub form_front : List ℕ → List ℕ
form_front b = form_part b Head ++ (form_part b Line ++ (form_part b Transverse ++ (form_part b SecondTransverse ++ form_part b Effects)))
