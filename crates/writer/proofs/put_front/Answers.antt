use mathlib.Core.Path.{◌≡◌, ◌∙◌, ap, ap₂}
use mathlib.Core.List.{List, ◌++◌}
use Prim.Native.Nat.{ℕ, ◌-◌, ◌*◌, ◌≤◌}
use native.Mathlib.Omega.{arith}
use lib.ListN.{length, take, drop, length-drop}
use lib.Seq.{length-take-le}
use Rattle.buffer.proofs.Stores.{and_then, retold}
use Rattle.model.specs.Format.{start}
use Rattle.model.specs.StandardForm.{record_count, word_bytes}
use Rattle.model.specs.declared.Header.{Header}
use Rattle.model.specs.declared.Part.TheVariants.{Rows}
use Rattle.writer.specs.Writable.{Writable, form_front}
use Rattle.writer.proofs.Fronts.{counts, front_is, front_inside, front_length}
use Rattle.writer.proofs.put_front.Goals as goal

-- where the rows start, once it is known
module _ {b : List ℕ} {head : Header} (w : Writable b head) (first : ℕ) (is : first ≡ start head Rows) where
  abbrev rows : ℕ
  rows = 4 * first

  rows_are : rows ≡ 4 * start head Rows
  rows_are = ap (λ (n : ℕ). 4 * n) is

  inside : (40 ≤ rows) × (rows ≤ length b) × (rows ≡ length (form_front b))
  inside = let i = front_inside w in (omega (arith, i.0, rows_are), omega (arith, i.1, rows_are), omega (arith, front_length w, rows_are))

  -- the two parts of the job that are copied
  before_count : length (take 36 b) ≡ 36
  before_count = length-take-le 36 b (omega (arith, inside.0, inside.1))

  after_count : length (take (rows - 40) (drop 40 b)) ≡ rows - 40
  after_count = length-take-le (rows - 40) (drop 40 b) (simp length-drop (omega (arith, inside.1)))

pub start-rows-requires : goal.start-rows-requires
start-rows-requires c = counts c.requires.0

pub slice_bounds-put-end : goal.slice_bounds-put-end
slice_bounds-put-end c =
    let i = inside c.requires.0 c.start-rows.result c.start-rows.ensures.0 in
    omega (arith, i.0, i.1)

pub put-requires : goal.put-requires
put-requires c =
    let i = inside c.requires.0 c.start-rows.result c.start-rows.ensures.0 in
    omega (arith, c.requires.2, before_count c.requires.0 c.start-rows.result c.start-rows.ensures.0, i.0, i.2)

pub put_word-requires : goal.put_word-requires
put_word-requires c =
    let i = inside c.requires.0 c.start-rows.result c.start-rows.ensures.0 in
    omega (arith, c.requires.2, before_count c.requires.0 c.start-rows.result c.start-rows.ensures.0, i.0, i.2)

pub slice_bounds-put-end-2 : goal.slice_bounds-put-end-2
slice_bounds-put-end-2 c =
    let i = inside c.requires.0 c.start-rows.result c.start-rows.ensures.0 in
    omega (arith, i.0, i.1)

pub put-requires-2 : goal.put-requires-2
put-requires-2 c =
    let i = inside c.requires.0 c.start-rows.result c.start-rows.ensures.0 in
    omega (arith, c.requires.2, before_count c.requires.0 c.start-rows.result c.start-rows.ensures.0, after_count c.requires.0 c.start-rows.result c.start-rows.ensures.0, i.0, i.2)

pub returns : goal.returns
returns c =
    let b = c.args.job.now in
    let count : word_bytes c.args.count ≡ word_bytes (record_count b) = ap word_bytes c.requires.1 in
    let rows = rows_are c.requires.0 c.start-rows.result c.start-rows.ensures.0 in
    retold
    (ap₂ (λ (w s : List ℕ). take 36 b ++ (w ++ s)) count (ap (λ (n : ℕ). take (n - 40) (drop 40 b)) rows) ∙ front_is c.requires.0)
    (and_then c.put.ensures (and_then c.put_word.ensures c.put-2.ensures))
