use mathlib.Core.Path.{sym, ◌∙◌, ap}
use mathlib.Core.List.{List}
use Prim.Native.Nat.{ℕ, ◌≤◌}
use native.Mathlib.Omega.{arith}
use lib.ListN.{length}
use Rattle.words.specs.Fields.{misfit_from, item_from}
use Rattle.model.specs.Format.{profile_of, header_of, section}
use Rattle.model.specs.Job.{Profile, highway, rural}
use Rattle.model.specs.Refusals.{width_test, fault11}
use Rattle.model.specs.declared.Header.{Header}
use Rattle.model.specs.declared.Part.TheVariants.{Head}
use Rattle.model.proofs.Sections.{section_length}
use Rattle.model.proofs.Verdict.{header_long}
use Rattle.words.proofs.Fits.{item_below}
use Rattle.job.proofs.Faults.{one_item, in_front}
use Rattle.job.proofs.refusals.width.Goals as goal

-- the test is at the header's words
few : (p : Profile) → length (width_test p) ≤ 5
few highway = omega arith
few rural = omega arith

pub width_misfit-own-requires : goal.width_misfit-own-requires
width_misfit-own-requires c =
    omega (arith, ap length c.section.ensures, section_length c.args.s.now c.args.head Head (omega (arith, c.requires.2)))

pub in_job-requires : goal.in_job-requires
in_job-requires c =
    (c.requires.1, λ p e. omega (arith, header_long c.args.head, few (profile_of c.args.head.edition), item_below (width_test (profile_of c.args.head.edition)) 0 _ p (sym c.width_misfit-own.ensures ∙ e)))

pub returns : goal.returns
unfolding fault11
returns c =
    let s = c.args.s.now in
    c.in_job.ensures
    ∙ in_front _
    ∙ c.width_misfit-own.ensures
    ∙ ap (λ (own : List ℕ). misfit_from 0 (width_test (profile_of c.args.head.edition)) (item_from own 0 0)) c.section.ensures
    ∙ ap (λ (head : Header). misfit_from 0 (width_test (profile_of head.edition)) (item_from (section s head Head) 0 0)) c.requires.0
    ∙ sym (one_item (width_test (profile_of (header_of s).edition)) _)
