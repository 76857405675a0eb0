use mathlib.Core.Path.{sym, subst}
use mathlib.Core.List.{List}
use Prim.Native.Nat.{ℕ}
use Rattle.model.specs.Decode.{decode}
use Rattle.centres.specs.Transverse.{TransverseFits}
use Rattle.accepted.proofs.Fits.{sized, across_fits, second_fits}
use Rattle.accepted.proofs.Loads.{decks_of}
use Rattle.accepted.proofs.across.Goals as goal

pub section-near-requires : goal.section-near-requires
section-near-requires c = sized c.requires

pub section-far-requires : goal.section-far-requires
section-far-requires c = sized c.requires

pub across_of-requires : goal.across_of-requires
across_of-requires c =
    let a = c.args.head in
    (subst (λ (l : List ℕ). TransverseFits l a.width a.spacing) (sym c.section-near.ensures) (across_fits c.requires), λ h. subst (λ (l : List ℕ). TransverseFits l a.second a.spacing) (sym c.section-far.ensures) (second_fits c.requires h))

pub returns : goal.returns
returns c = c.across_of.ensures (decode c.args.job.now) (decks_of c.requires c.section-near.ensures c.section-far.ensures)
