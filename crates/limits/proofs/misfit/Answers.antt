use mathlib.Core.Path.{◌≡◌, sym, ◌∙◌, ap}
use Prim.Native.Nat.{ℕ, ◌+◌, ◌*◌, ◌≤◌}
use native.Mathlib.Omega.{arith}
use Rattle.std.specs.Prelude.{Some}
use Rattle.words.specs.Fields.{moved, misfit}
use Rattle.model.specs.Format.{format}
use Rattle.sections.proofs.Sizes.{few_words}
use Rattle.limits.proofs.Scans.{search_begins, search_goes_on, search_found, search_over}
use Rattle.words.proofs.Fits.{below}
use Rattle.limits.proofs.misfit.Goals as goal

-- the place at fault, where item i has one: as the code adds it up
module _ (c : goal.After-item_words) where
  abbrev place : ℕ
  place = c.item_words.result * c.loop-i.i + c.in-Some.j

  found : misfit (format c.args.head c.args.part) c.args.s.now ≡ Some place
  unfolding misfit
  found =
      let i = c.loop-i.i in
      let j = c.in-Some.j in
      let e = c.items-i-end.ensures.0 in
      search_found c.loop-i.invariant (omega arith) (ap (moved _) (sym c.item_misfit.ensures ∙ c.in-Some.is))
      ∙ ap (λ (w : ℕ). Some (w * i + j)) (sym c.item_words.ensures.0)

  small : place ≤ 27040
  small = few_words c.args.head c.args.part c.requires.1 (below (format c.args.head c.args.part) _ place found)

pub item_misfit-requires : goal.item_misfit-requires
item_misfit-requires c = (c.requires.0, omega (arith, c.items-i-end.ensures.0), c.requires.2)

pub returns-in-Some : goal.returns-in-Some
returns-in-Some c = sym (found c)

pub loop-i-preserved : goal.loop-i-preserved
loop-i-preserved c =
    let e = c.items-i-end.ensures.0 in
    search_goes_on c.loop-i.invariant (omega arith) (ap (moved _) (sym c.item_misfit.ensures ∙ c.in_default.is))

pub returns : goal.returns
unfolding misfit
returns c =
    let e = c.items-i-end.ensures.0 in
    sym (search_over c.loop-i.invariant (omega arith))

pub loop-i-init : goal.loop-i-init
loop-i-init c = search_begins _ _

pub overflow_mul-result : goal.overflow_mul-result
overflow_mul-result c = omega (arith, small c)

pub overflow_add-result : goal.overflow_add-result
overflow_add-result c = omega (arith, small c)
