use mathlib.Core.Path.{◌≡◌, sym, ◌∙◌, ap}
use mathlib.Core.List.{List, [], ◌∷◌}
use Rattle.std.specs.Prelude.{Option}
use Prim.Native.Nat.{ℕ}
use native.Mathlib.Omega.{arith}
use lib.ListN.{length}
use Rattle.words.specs.Fields.{misfit_from, item_from}
use Rattle.model.specs.Format.{format, fault_in, section, header_of}
use Rattle.model.specs.Refusals.{fault2}
use Rattle.model.specs.declared.Header.{Header}
use Rattle.model.specs.declared.Part.TheVariants.{Head}
use Rattle.model.proofs.Sections.{section_length}
use Rattle.words.proofs.Fits.{item_below}
use Rattle.model.proofs.Verdict.{header_short}
use Rattle.job.proofs.Faults.{or_nothing, one_item, in_front}
use Rattle.job.proofs.refusals.limits.Goals as goal

-- the header's place at fault is the job's
found : (s : List ℕ) {o : Option ℕ} {t : List ℕ} {head : Header} → o ≡ misfit_from 0 (format head Head).fields (item_from t 0 0) → t ≡ section s head Head → head ≡ header_of s → o ≡ fault2 s
unfolding fault2
found s {head = head} e f own =
    e
    ∙ ap (λ (t : List ℕ). misfit_from 0 (format head Head).fields (item_from t 0 0)) f
    ∙ sym (or_nothing _ ∙ in_front _ ∙ one_item (format head Head).fields _)
    ∙ ap (λ (head : Header). fault_in s head (Head ∷ [])) own

pub header_misfit-requires : goal.header_misfit-requires
header_misfit-requires c =
    let h = c.requires.1 in
    omega (arith, ap length c.section.ensures, section_length c.args.s.now c.args.head Head (omega arith))

pub returns-in_err-place : goal.returns-in_err-place
returns-in_err-place c = c.from_residual.ensures ∙ sym c.in_err-place.was ∙ found c.args.s.now c.header_misfit.ensures c.section.ensures c.requires.0

pub returns : goal.returns
returns c = sym c.in_ok-place.was ∙ found c.args.s.now c.header_misfit.ensures c.section.ensures c.requires.0

pub overflow_cast-result : goal.overflow_cast-result
overflow_cast-result c =
    let own = item_below (format c.args.head Head).fields 0 (item_from c.section.result.now 0 0) _ (sym c.header_misfit.ensures ∙ c.in_ok-place.was) in
    omega (arith, own, header_short c.args.head)
