-- A job that may be written: what its sections give, its form's bytes, and the front of the form as it is copied.
use mathlib.Core.Path.{◌≡◌, sym, ◌∙◌, ap, ap₂, subst}
use Rattle.std.specs.Prelude.{None}
use mathlib.Core.List.{List, ◌++◌, append_assoc}
use Prim.Native.Nat.{ℕ, ◌+◌, ◌-◌, ◌*◌, ◌≤◌}
use native.Mathlib.Omega.{arith}
use lib.ListN.{length, take, drop, length-append, length-drop}
use lib.Seq.{take-take, take-add, drop-drop, drop_at, length-take-le}
use Rattle.model.specs.Format.{header_of, words, start, section, section_of}
use Rattle.model.specs.Job.{Term}
use Rattle.model.specs.Refusals.{job_verdict}
use Rattle.model.specs.StandardForm.{records_to, record_count, word_bytes, row_bytes, record_bytes, joined, form_part, form}
use Rattle.model.specs.declared.Header.{Header}
use Rattle.model.specs.declared.Part.{Part}
use Rattle.model.specs.declared.Part.TheVariants.{Head, Line, Transverse, SecondTransverse, Effects, Rows, Records}
use Rattle.model.proofs.Verdict.{Clear, clear, header_long, part_inside, highway_accepted}
use Rattle.sections.specs.Sized.{Counted, Sized}
use Rattle.sections.proofs.Sizes.{is_sized, counted}
use Rattle.forms.proofs.Listed.{Listed}
use Rattle.forms.proofs.Parts.{few_512, part_length, form_length}
use Rattle.forms.proofs.Standard.{listed}
use Rattle.tables.specs.ChainsRead.{ChainsRead, table_terms}
use Rattle.tables.proofs.Fits.{accepted_reads, count_read, rows_read, records_read}
use Rattle.writer.specs.Writable.{Writable, form_front}

-- five parts one after the other, cut from a string
slices : (t : List ℕ) (a b c d e : ℕ) → take a t ++ (take b (drop a t) ++ (take c (drop (a + b) t) ++ (take d (drop (a + b + c) t) ++ take e (drop (a + b + c + d) t)))) ≡ take (a + b + c + d + e) t
slices t a b c d e = sym (take-add (a + b + c + d) e t ∙ rw (take-add (a + b + c) d t, take-add (a + b) c t, take-add a b t) (simp append_assoc))

module _ {b : List ℕ} {head : Header} (w : Writable b head) where
  accepted : job_verdict b ≡ None
  accepted = (highway_accepted b w.accepted).1

  none_found : Clear b
  none_found = clear b accepted

  ok : Listed b
  ok = listed b w.accepted

  -- ---- its sections
  pub sized : Sized b head
  sized = is_sized b w.own none_found.c1 none_found.c2 none_found.c3

  pub counts : Counted head
  counts = subst Counted (sym w.own) (counted b none_found.c2)

  reads : ChainsRead (section_of b Rows) (section_of b Records) head
  reads = subst (ChainsRead (section_of b Rows) (section_of b Records)) (sym w.own) (accepted_reads b accepted)

  -- ---- C and the form's bytes
  pub few : record_count b ≤ 512
  few = few_512 b ok

  pub size_is : length (form b) ≡ 4 * (start head Records + 3 * record_count b)
  size_is = form_length b ok ∙ ap (λ (h : Header). 4 * (start h Records + 3 * record_count b)) (sym w.own)

  -- ---- its front
  ten : 40 ≤ length b
  ten = let l = header_long (header_of b) in let i = part_inside b ok.size Head in omega arith

  abbrev rest : ℕ
  rest = 4 * words (header_of b) Head - 40

  -- a part, counted from word 10 on
  part_slice : (part : Part) (m : ℕ) → 4 * start (header_of b) part ≡ 40 + m → section_of b part ≡ take (4 * words (header_of b) part) (drop m (drop 40 b))
  unfolding section
  part_slice part m e = ap (take (4 * words (header_of b) part)) (ap (λ (k : ℕ). drop k b) e ∙ sym (drop-drop m 40 b))

  header_front : take 36 (section_of b Head) ≡ take 36 b
  unfolding section
  header_front = take-take 36 (4 * words (header_of b) Head) b (omega (arith, header_long (header_of b)))

  header_rest : drop 40 (section_of b Head) ≡ take rest (drop 40 b)
  unfolding section
  header_rest =
      let l : 4 * words (header_of b) Head ≡ 40 + rest = omega (arith, header_long (header_of b)) in
      ap (λ (k : ℕ). drop 40 (take k b)) l ∙ ap (drop 40) (take-add 40 rest b) ∙ drop_at (take 40 b) (take rest (drop 40 b)) 40 (length-take-le 40 b ten)

  -- C between the words before it and those after it
  pub front_is : take 36 b ++ (word_bytes (record_count b) ++ take (4 * start head Rows - 40) (drop 40 b)) ≡ form_front b
  unfolding form_part
  front_is =
      let h = header_of b in
      let l = header_long h in
      let t = drop 40 b in
      let c = word_bytes (record_count b) in
      let line = 4 * words h Line in
      let near = 4 * words h Transverse in
      let far = 4 * words h SecondTransverse in
      let effects = 4 * words h Effects in
      let all : 4 * start h Rows - 40 ≡ rest + line + near + far + effects = omega arith in
      ap (λ (x : Header). take 36 b ++ (c ++ take (4 * start x Rows - 40) t)) w.own
      ∙ ap (λ (k : ℕ). take 36 b ++ (c ++ take k t)) all
      ∙ ap (λ (s : List ℕ). take 36 b ++ (c ++ s)) (sym (slices t rest line near far effects))
      ∙ rw (
        header_front,
        header_rest,
        part_slice Line rest (omega arith),
        part_slice Transverse (rest + line) (omega arith),
        part_slice SecondTransverse (rest + line + near) (omega arith),
        part_slice Effects (rest + line + near + far) (omega arith),
      )
      (simp append_assoc)

  -- it ends where the rows start
  pub front_inside : (40 ≤ 4 * start head Rows) × (4 * start head Rows ≤ length b)
  front_inside = subst (λ (h : Header). (40 ≤ 4 * start h Rows) × (4 * start h Rows ≤ length b)) (sym w.own) (omega (arith, header_long (header_of b)), omega (arith, part_inside b ok.size Rows))

  pub front_length : length (form_front b) ≡ 4 * start head Rows
  front_length =
      let i = front_inside in
      let c = word_bytes (record_count b) in
      let t = take (4 * start head Rows - 40) (drop 40 b) in
      let l : length t ≡ 4 * start head Rows - 40 = length-take-le (4 * start head Rows - 40) (drop 40 b) (simp length-drop (omega (arith, i.1))) in
      ap length (sym front_is) ∙ length-append (take 36 b) (c ++ t) ∙ omega (arith, length-take-le 36 b (omega (arith, ten)), length-append c t, l, i.0)

  -- ---- the front, the rows and the records are the form
  pub form_is : form_front b ++ (form_part b Rows ++ form_part b Records) ≡ form b
  unfolding form
  form_is = simp append_assoc

  -- what is read from the two sections
  module _ {rows records : List ℕ} (e : rows ≡ section_of b Rows) (f : records ≡ section_of b Records) where
    pub reads_in : ChainsRead rows records head
    reads_in = subst (λ (s : List ℕ). ChainsRead s records head) (sym e) (subst (λ (s : List ℕ). ChainsRead (section_of b Rows) s head) (sym f) reads)

    -- by the job's own header and sections
    own_terms : {A : Type 0} (g : ℕ → List ℕ → (ℕ → List Term) → A) → g head.rows rows (table_terms rows records head) ≡ g (header_of b).rows (section_of b Rows) (table_terms (section_of b Rows) (section_of b Records) (header_of b))
    own_terms g = ap₂ (λ (s t : List ℕ). g head.rows s (table_terms s t head)) e f ∙ ap (λ (h : Header). g h.rows (section_of b Rows) (table_terms (section_of b Rows) (section_of b Records) h)) w.own

    pub count_in : records_to head.rows (table_terms rows records head) ≡ record_count b
    count_in = own_terms (λ n s terms. records_to n terms) ∙ sym (count_read b ok.listed)

    pub rows_in : joined head.rows (row_bytes rows (table_terms rows records head)) ≡ form_part b Rows
    rows_in = own_terms (λ n s terms. joined n (row_bytes s terms)) ∙ sym (rows_read b ok.listed)

    pub records_in : joined head.rows (record_bytes (table_terms rows records head)) ≡ form_part b Records
    records_in = own_terms (λ n s terms. joined n (record_bytes terms)) ∙ sym (records_read b ok.listed)

  -- the form's bytes: its front, its rows and its records
  pub rows_length : length (form_part b Rows) ≡ 16 * head.rows
  rows_length = part_length b ok Rows ∙ omega (arith, ap (λ (h : Header). h.rows) w.own)

  pub room : length (form b) ≡ length (form_front b) + (16 * head.rows + 12 * record_count b)
  room = omega (arith, size_is, front_length)
