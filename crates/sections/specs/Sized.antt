-- What the code's contracts say of a header beside the table: its counts within their limits, and the job that it is of.
use Rattle.std.specs.Prelude.{◌≡◌, List, ℕ, ◌*◌, ◌≤◌, ◌<◌, length, None}
use Rattle.model.specs.Format.{header_of, words_due}
use Rattle.model.specs.Refusals.{fault2}
use Rattle.model.specs.declared.Header.{Header}

-- counts within their limits, a spacing to divide by and a carriageway: enough for the arithmetic of places
pub record Counted (head : Header) : Type 0 where
  pub pieces : head.pieces ≤ 1000
  pub spaced : 0 < head.spacing
  pub spacing : head.spacing ≤ 50
  pub wide : 0 < head.width
  pub width : head.width ≤ 2079
  pub second : head.second ≤ 2079
  pub effects : head.effects ≤ 16
  pub rows : head.rows ≤ 32
  pub records : head.records ≤ 512

-- the job's own header, its words within their limits, and the bytes that it calls for
pub record Sized (b : List ℕ) (head : Header) : Type 0 where
  pub own : head ≡ header_of b
  pub within : fault2 b ≡ None
  pub due : length b ≡ 4 * words_due head
