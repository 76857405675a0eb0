-- The better of both ways round is right.
use Rattle.std.specs.Prelude.{if◌then◌else◌}
use mathlib.Core.Path.{◌≡◌, sym, ◌∙◌, ap, ap₂, subst}
use mathlib.Core.List.{List}
use Prim.Native.Nat.{ℕ, ◌+◌, ◌*◌, ◌/◌}
use native.Mathlib.Omega.{arith}
use lib.IntN.{ℤ, pos, ◌-ℤ◌, ◌*ℤ◌}
use Rattle.exact.specs.Bounds.{Within}
use Rattle.exact.specs.Questions.{better, beats, NoBetter, extreme}
use Rattle.exact.specs.declared.Question.{Question}
use Rattle.exact.proofs.Bridge.{by_test}
use Rattle.exact.proofs.Extremes.{beats_yes, beats_no}
use Rattle.exact.proofs.Exact.{pos_nonneg, pos_mono, ◌⊕◌, ◌⊝◌, neg, lit, ◌≐◌, ◌≼◌, ◌⇒◌, linear}
use Rattle.magnitudes.specs.Magnitudes.{train_most}
use Rattle.model.specs.Job.{InfluenceLine}
use Rattle.model.specs.Decode.{influence_line}
use Rattle.model.specs.Trains.{train_length, train_effect, best_one_way, best_train, ExtremeRight}
use Rattle.model.specs.declared.{Axle.Axle, Way.Way, Way.TheVariants.AsGiven, Way.TheVariants.Turned, Mode.Mode, TrainExtreme.TrainExtreme}
use Rattle.model.proofs.LineLimits.{section_signed}
use Rattle.model.proofs.Trains.{train_bound}
use Rattle.pair.specs.PairPlaces.{side_at}
use Rattle.stands.specs.TrainFits.{Ratable}
use Rattle.stands.specs.declared.Spaced.{Spaced}
use Rattle.stands.specs.declared.Best.{Best}
use Rattle.stands.specs.Runs.{SpacedRight, SpacedFits, BestOf, at_place}
use Rattle.stands.proofs.Stations.{places_best}

module _ (mode : Mode) (q : Question) (s : List ℕ) (h n : ℕ) (t : List Axle) (able : Ratable s h n t) where
  abbrev line : InfluenceLine
  line = influence_line s h n

  -- what a best place one way round stands for
  abbrev pub stand : Way → (l : ℕ) → Best → TrainExtreme
  stand way l b = record { value = b.value; way = way; side = side_at b.place; station = pos (b.place / 2) -ℤ pos l }

  -- the best place of one way round
  pub record Way_found (way : Way) (l : ℕ) (b : Best) : Type 0 where
    pub long : l ≡ train_length t / h
    pub found : BestOf q (at_place mode q line t way) (2 * (n + l)) b
    pub best : b.value ≡ best_one_way mode q line t way

  pub way_found : (way : Way) (r : Spaced) (b : Best) → SpacedRight way h t r → SpacedFits r → BestOf q (at_place mode q line t way) (2 * (n + r.length)) b → Way_found way r.length b
  way_found way r b right fits found = record {
    long = right.reach;
    found = found;
    best = found.value ∙ ap (λ (k : ℕ). extreme_to (2 * (n + k))) right.reach ∙ places_best mode q s h n t way r right fits;
  }
    where
      extreme_to : ℕ → ℤ
      extreme_to m = extreme q m (at_place mode q line t way)

  -- where it is the best of both, it is right
  right_of_way : (way : Way) (l : ℕ) (b : Best) → Way_found way l b → b.value ≡ best_train mode q line t → ExtremeRight mode q line t (stand way l b)
  right_of_way way l b w e = record {
    value = e;
    unbeaten = λ k way z side p. subst (λ (v : ℤ). NoBetter q (train_effect mode q line t k way z side) (pos k *ℤ v)) (sym e) (train_bound mode q line (section_signed s h n able.sided) t able.length able.train.at k way z side p);
    gives = ap (λ (k : ℕ). train_effect mode q line t 1 way (pos (b.place / 2) -ℤ pos k) (side_at b.place)) w.long ∙ w.found.gives;
    first = linear 3 (λ a l m. l ≐ m ⇒ lit 0 ≼ a ⇒ neg m ≼ a ⊝ l) (pos (b.place / 2)) (pos l) (pos (train_length t / h)) (omega arith) (ap pos w.long) (pos_nonneg (b.place / 2));
    last = linear 3 (λ a l n. a ≼ n ⊕ l ⇒ a ⊝ l ≼ n) (pos (b.place / 2)) (pos l) (pos n) (omega arith) (pos_mono (b.place / 2) (n + l) (omega (arith, w.found.late)));
  }

  pub worst_right : (l : ℕ) (given turned : Best) (x : TrainExtreme) → Way_found AsGiven l given → Way_found Turned l turned → x ≡ (if beats q turned.value given.value then stand Turned l turned else stand AsGiven l given) → ExtremeRight mode q line t x
  unfolding best_train
  worst_right l given turned x g u e =
      subst (ExtremeRight mode q line t) (sym e)
      (by_test (beats q turned.value given.value) (λ b. ExtremeRight mode q line t (if b then stand Turned l turned else stand AsGiven l given))
      (λ b. right_of_way Turned l turned u (sym (beats_yes q turned.value given.value b).1 ∙ both))
      (λ b. right_of_way AsGiven l given g (sym (beats_no q turned.value given.value b).1 ∙ both)))
    where
      both : better q given.value turned.value ≡ best_train mode q line t
      both = ap₂ (better q) g.best u.best

  pub worst_near : (l : ℕ) (given turned : Best) (x : TrainExtreme) → Way_found AsGiven l given → Way_found Turned l turned → x ≡ (if beats q turned.value given.value then stand Turned l turned else stand AsGiven l given) → Within train_most x.value
  worst_near l given turned x g u e =
      subst (λ (y : TrainExtreme). Within train_most y.value) (sym e)
      (by_test (beats q turned.value given.value) (λ b. Within train_most (if b then stand Turned l turned else stand AsGiven l given).value) (λ b. u.found.near) (λ b. g.found.near))
