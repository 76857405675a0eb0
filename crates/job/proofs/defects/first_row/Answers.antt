use Rattle.std.specs.Prelude.{if◌then◌else◌, None, Some}
use mathlib.Core.Path.{◌≡◌, refl, sym, ap}
use mathlib.Core.Bool.{Bool, not}
use mathlib.Core.List.{List}
use Prim.Native.Nat.{ℕ, ◌+◌, ◌*◌, ◌<◌}
use native.Mathlib.Nat.{add-zero}
use native.Mathlib.Omega.{arith}
use lib.ListN.{length}
use Rattle.exact.proofs.Bridge.{by_test}
use Rattle.words.specs.Fields.{moved, item_misfit, misfit}
use Rattle.model.specs.Format.{header_of, section_of, size}
use Rattle.model.specs.Decode.{first_record}
use Rattle.model.specs.Refusals.{row_tests}
use Rattle.model.specs.declared.Header.{Header}
use Rattle.model.specs.declared.Part.TheVariants.{Rows, Records}
use Rattle.job.specs.Defects.{chain_passes, is_defective}
use Rattle.job.specs.declared.defects.Defect.{Defect}
use Rattle.limits.proofs.Scans.{search_begins, search_goes_on, search_found, search_over}
use Rattle.sections.proofs.Sizes.{part_length}
use Rattle.job.proofs.Linked.{first_is, passes, chain_there}
use Rattle.job.proofs.defects.first_row.Goals as goal

-- row i is one of the job's
here : (b : List ℕ) {head : Header} {i : ℕ} → head ≡ header_of b → i < head.rows → i < (header_of b).rows
here b e h = omega (arith, ap (λ (h : Header). h.rows) e)

count : (b : List ℕ) {head : Header} → head ≡ header_of b → head.records ≡ (header_of b).records
count b e = ap (λ (h : Header). h.records) e

-- the call's answer is row i's
found : (b : List ℕ) (i : ℕ) (defect : Defect) {records : List ℕ} {f n : ℕ} {r t : Bool} → records ≡ section_of b Records → f ≡ first_record (section_of b Rows) (i + 1) → n ≡ (header_of b).records →
    r ≡ is_defective defect records n f → r ≡ t → item_misfit (row_tests (header_of b).rows (chain_passes defect b)).fields (section_of b Rows) i ≡ (if t then Some (size Rows * i) else None)
found b i defect {t = t} s f n d e =
    let p = passes b i s f n defect d in
    rw (p, e) (by_test t (λ t. moved (size Rows * i) (if not t then None else Some 0) ≡ (if t then Some (size Rows * i) else None)) (λ _. ap Some (add-zero (size Rows * i))) (λ _. refl))

pub count-first-requires : goal.count-first-requires
count-first-requires c =
    omega (arith, ap length c.section-rows.ensures, part_length c.requires.0 Rows, here c.args.s.now c.requires.0.own c.loop-i-test.true)

pub is_defective-requires : goal.is_defective-requires
is_defective-requires c =
    let b = c.args.s.now in
    let own = c.requires.0.own in
    chain_there b c.requires.0 c.requires.1 c.loop-i.i (here b own c.loop-i-test.true) c.section-records.ensures (first_is b c.loop-i.i c.section-rows.ensures c.count-first.ensures.0) (count b own)

pub returns-then-is_defective : goal.returns-then-is_defective
unfolding misfit
returns-then-is_defective c =
    let b = c.args.s.now in
    let own = c.requires.0.own in
    sym (search_found c.loop-i.invariant (here b own c.loop-i-test.true) (found b c.loop-i.i c.args.defect c.section-records.ensures (first_is b c.loop-i.i c.section-rows.ensures c.count-first.ensures.0) (count b own) c.is_defective.ensures c.if-is_defective.true))

pub loop-i-preserved : goal.loop-i-preserved
loop-i-preserved c =
    let b = c.args.s.now in
    let own = c.requires.0.own in
    search_goes_on c.loop-i.invariant (here b own c.loop-i-test.true) (found b c.loop-i.i c.args.defect c.section-records.ensures (first_is b c.loop-i.i c.section-rows.ensures c.count-first.ensures.0) (count b own) c.is_defective.ensures c.if-is_defective.false)

pub returns : goal.returns
unfolding misfit
returns c =
    sym (search_over c.loop-i.invariant (omega (arith, ap (λ (h : Header). h.rows) c.requires.0.own)))

pub section-rows-requires : goal.section-rows-requires
section-rows-requires c = c.requires.0

pub section-records-requires : goal.section-records-requires
section-records-requires c = c.requires.0

pub loop-i-init : goal.loop-i-init
loop-i-init c = search_begins _ _
