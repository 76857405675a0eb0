use Rattle.std.specs.Prelude.{if◌then◌else◌}
use mathlib.Core.Path.{◌≡◌, refl, sym, ◌∙◌, ap, ap₂}
use mathlib.Core.Bool.{Bool}
use mathlib.Core.List.{List}
use Prim.Native.Nat.{ℕ, ◌-◌, ◌≤◌, ◌<◌}
use native.Mathlib.Omega.{arith}
use lib.IntN.{ℤ, pos}
use lib.Dec.{ltb, eqb, lit<}
use mir.Syntax.{w64}
use borrow.Author.Tests.{eq-eqb, ne_eqb}
use Rattle.exact.specs.Questions.{beats}
use Rattle.exact.specs.declared.Question.{Question}
use Rattle.exact.proofs.Held.{known, lit, beats_held}
use Rattle.model.specs.Lanes.{additional}
use Rattle.sets.specs.Sets.{value_at, number_at, RankingFits, factor_by_rank}
use Rattle.sets.proofs.Places.{rank_few}
use Rattle.sets.proofs.Reduced.{values_near}
use Rattle.sets.proofs.Ranking.factor.Goals as goal

-- by whether the lane has HO, and whether its value beats 0
module _ (q : Question) (ranks : List ℕ) (hn : List ℤ) (o i : ℕ) where
  abbrev by : (isHo more : Bool) → ℕ
  by isHo more = let r = number_at ranks in if isHo then 0 else (if more then additional (if ltb (r o) (r i) then r i - 1 else r i) else 0)

  is : {t u : Bool} → eqb i o ≡ t → beats q (value_at hn i) (pos 0) ≡ u → by t u ≡ factor_by_rank q (number_at ranks) (value_at hn) o i
  unfolding factor_by_rank
  is a b = sym (ap₂ by a b)

-- ranks are few
few : {q : Question} {n : ℕ} {hn : List ℤ} {ranks : List ℕ} → RankingFits q n hn ranks → (i : ℕ) → i < n → number_at ranks i ≤ 10
few {q} {n} {hn} fits i h = let t = rank_few q n (value_at hn) i in omega (arith, fits.ranked.each i h, fits.few)

pub additional-requires : goal.additional-requires
additional-requires c = omega (arith, few c.args.self.now.fits c.args.i c.requires.1)

pub returns-then-i-o : goal.returns-then-i-o
returns-then-i-o c = let a = c.args in let r = a.self.now in (is r.q r.ranks r.hn a.o a.i (eq-eqb a.i a.o c.if-i-o.true) refl, omega arith)

pub returns-then-beats : goal.returns-then-beats
returns-then-beats c =
    let a = c.args in
    let r = a.self.now in
    let more = beats_held (known w64 (values_near r.fits.values a.i c.requires.1) (lit< tt)) (lit w64 0 (lit< tt)) r.q c.beats.ensures c.if-beats.true in
    (c.additional.ensures.0 ∙ ap additional c.place.ensures.0 ∙ is r.q r.ranks r.hn a.o a.i (ne_eqb a.i a.o c.if-i-o.false) more, c.additional.ensures.1)

pub returns-else-beats : goal.returns-else-beats
returns-else-beats c =
    let a = c.args in
    let r = a.self.now in
    let more = beats_held (known w64 (values_near r.fits.values a.i c.requires.1) (lit< tt)) (lit w64 0 (lit< tt)) r.q c.beats.ensures c.if-beats.false in
    (is r.q r.ranks r.hn a.o a.i (ne_eqb a.i a.o c.if-i-o.false) more, omega arith)
