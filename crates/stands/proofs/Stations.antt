-- What a train counts at its places, by the sums of the runs, and the best of them.
use Rattle.std.specs.Prelude.{if◌then◌else◌}
use mathlib.Core.Path.{◌≡◌, sym, ◌∙◌, ap, ap₂, subst}
use mathlib.Core.List.{List}
use Prim.Native.Nat.{ℕ, suc, ◌+◌, ◌-◌, ◌*◌, ◌/◌, ◌%◌, ◌≤◌, ◌<◌}
use native.Mathlib.Nat.{add-zero}
use native.Mathlib.Decide.{dec_le, ℕ_discrete}
use native.Mathlib.Omega.{arith}
use lib.IntN.{ℤ, pos, ◌+ℤ◌, ◌-ℤ◌, ◌*ℤ◌}
use lib.ListN.{length}
use Rattle.exact.specs.Bounds.{Within}
use Rattle.exact.specs.Questions.{better, beats, NoBetter, extreme}
use Rattle.exact.specs.declared.Question.{Question}
use Rattle.exact.proofs.Bounds.{within_pos}
use Rattle.exact.proofs.Bridge.{by_test, ℕ→≤, ℕ→<, ℕ→≡, added, subbed}
use Rattle.exact.proofs.Extremes.{no_better_trans, no_better_antisym, better_left, better_right, better_least, beats_yes, beats_no, extreme_step, extreme_bounds, extreme_least}
use Rattle.exact.proofs.Ranges.{sum_cong, sum_zero}
use Rattle.exact.proofs.Ring.{◌⊕◌, ◌⊗◌, ◌⊝◌, lit, ◌≐◌, solve}
use Rattle.words.specs.Words.{word_at}
use Rattle.magnitudes.specs.Magnitudes.{train_most}
use Rattle.model.specs.Job.{InfluenceLine}
use Rattle.model.specs.Decode.{influence_line}
use Rattle.model.specs.Line.{ordinate}
use Rattle.model.specs.Trains.{axle_at, train_length, distance, counted, train_effect, train_station, best_one_way}
use Rattle.model.specs.declared.{Side.Side, Side.TheVariants.Left, Side.TheVariants.Right, Axle.Axle, Way.Way, Mode.Mode}
use Rattle.model.proofs.Axles.{before_right, before_left}
use Rattle.model.proofs.Signs.{off_right, off_left}
use Rattle.model.proofs.Trains.{counted_zero}
use Rattle.pair.specs.PairPlaces.{side_at}
use Rattle.pair.proofs.Places.{right_on, left_on, even_side, odd_side}
use Rattle.stands.specs.declared.Spaced.{Spaced}
use Rattle.stands.specs.declared.Best.{Best}
use Rattle.stands.specs.Runs.{SpacedRight, SpacedFits, end_ordinate, run_sum, BestOf, at_place}
use Rattle.stands.proofs.EndOrdinates.{end_before, end_past, end_on}

-- ---- one axle of a run, d pieces from the leftmost
module _ (s : List ℕ) (h n l m d : ℕ) where
  abbrev line : InfluenceLine
  line = influence_line s h n

  -- at the run's left end
  end_left : end_ordinate s n l (m + d) 0 ≡ ordinate line 1 (pos m -ℤ pos l +ℤ pos (1 * d)) Right
  end_left = elim (dec_le l (m + d)) [
    | yes a ↦
        let e : pos m -ℤ pos l +ℤ pos (1 * d) ≡ pos (m + d - l) = ℕ→≡ _ _ (omega (arith, added (pos m -ℤ pos l) (pos (1 * d)), subbed (pos m) (pos l))) in
        elim (dec_le (suc (m + d - l)) n) [
          | yes b ↦ end_on s n l (m + d) 0 a b ∙ ap (word_at s) (add-zero (2 * (m + d - l))) ∙ sym (ap (λ (z : ℤ). ordinate line 1 z Right) e ∙ right_on line (m + d - l) b)
          | no b ↦ end_past s n l (m + d) 0 a (omega arith) ∙ sym (ap (λ (z : ℤ). ordinate line 1 z Right) e ∙ off_right line (m + d - l) (omega arith))
        ]
    | no a ↦ end_before s n l (m + d) 0 (omega arith) ∙ sym (before_right line 1 _ (ℕ→< (omega (arith, added (pos m -ℤ pos l) (pos (1 * d)), subbed (pos m) (pos l)))))
  ]

  -- at its right end
  end_right : end_ordinate s n l (m + d) 1 ≡ ordinate line 1 (pos (m + 1) -ℤ pos l +ℤ pos (1 * d)) Left
  end_right = elim (dec_le l (m + d)) [
    | yes a ↦
        let e : pos (m + 1) -ℤ pos l +ℤ pos (1 * d) ≡ pos (m + d - l + 1) = ℕ→≡ _ _ (omega (arith, added (pos (m + 1) -ℤ pos l) (pos (1 * d)), subbed (pos (m + 1)) (pos l))) in
        elim (dec_le (suc (m + d - l)) n) [
          | yes b ↦
              let f : m + d - l + 1 - 1 ≡ m + d - l = omega arith in
              end_on s n l (m + d) 1 a b ∙ sym (ap (λ (z : ℤ). ordinate line 1 z Left) e ∙ left_on line (m + d - l + 1) (λ z. omega arith) (omega arith) ∙ ap (λ (i : ℕ). word_at s (2 * i + 1)) f)
          | no b ↦ end_past s n l (m + d) 1 a (omega arith) ∙ sym (ap (λ (z : ℤ). ordinate line 1 z Left) e ∙ off_left line (m + d - l + 1) (omega arith))
        ]
    | no a ↦ end_before s n l (m + d) 1 (omega arith) ∙ sym (before_left line 1 _ (ℕ→≤ (omega (arith, added (pos (m + 1) -ℤ pos l) (pos (1 * d)), subbed (pos (m + 1)) (pos l)))))
  ]

-- ---- the train, one way round
module _ (mode : Mode) (q : Question) (s : List ℕ) (h n : ℕ) (t : List Axle) (way : Way) (r : Spaced) (right : SpacedRight way h t r) (fits : SpacedFits r) where
  abbrev given : InfluenceLine
  given = influence_line s h n

  abbrev f : ℕ → ℤ
  f p = at_place mode q given t way p

  -- the station of place p, as the code counts it
  abbrev at : ℕ → ℤ
  at p = pos (p / 2) -ℤ pos (train_length t / h)

  -- at an end of run m: the train's effect at a place, where each axle counts the ordinate there
  run_is : (m end p : ℕ) → ((d : ℕ) → end_ordinate s n (train_length t / h) (m + d) end ≡ ordinate given 1 (at p +ℤ pos (1 * d)) (side_at p)) → run_sum mode q s n r m end r.count ≡ f p
  unfolding run_sum train_effect
  run_is m end p e =
      ap (λ (c : ℕ). run_sum mode q s n r m end c) right.count
      ∙ sum_cong (length t) _ _ (λ i l.
      ap₂ (λ (w : ℕ) (y : ℤ). pos w *ℤ counted mode q y) (right.load i l)
      (ap₂ (λ (k x : ℕ). end_ordinate s n k (m + x) end) right.reach (right.at i l) ∙ e (distance way t i / h)))

  pub run_left : (m : ℕ) → run_sum mode q s n r m 0 r.count ≡ f (2 * m + 1)
  run_left m =
      let e : (2 * m + 1) / 2 ≡ m = omega arith in
      run_is m 0 (2 * m + 1) (λ d. end_left s h n (train_length t / h) m d ∙ ap₂ (λ (k : ℕ) (side : Side). ordinate given 1 (pos k -ℤ pos (train_length t / h) +ℤ pos (1 * d)) side) (sym e) (sym (odd_side (2 * m + 1) (λ z. omega arith))))

  pub run_right : (m : ℕ) → run_sum mode q s n r m 1 r.count ≡ f (2 * m + 2)
  run_right m =
      let e : (2 * m + 2) / 2 ≡ m + 1 = omega arith in
      run_is m 1 (2 * m + 2) (λ d. end_right s h n (train_length t / h) m d ∙ ap₂ (λ (k : ℕ) (side : Side). ordinate given 1 (pos k -ℤ pos (train_length t / h) +ℤ pos (1 * d)) side) (sym e) (sym (even_side (2 * m + 2) (omega arith))))

  -- a place where no axle counts anything
  place_none : (p : ℕ) → ((i : ℕ) → i < length t → ordinate given 1 (at p +ℤ pos (1 * (distance way t i / h))) (side_at p) ≡ pos 0) → f p ≡ pos 0
  unfolding train_effect
  place_none p none =
      sum_zero (length t) _ (λ i l. ap (λ (y : ℤ). pos (axle_at t i).load *ℤ counted mode q y) (none i l) ∙ ap (λ (y : ℤ). pos (axle_at t i).load *ℤ y) (counted_zero mode q) ∙ solve 1 (λ x. x ⊗ lit 0 ≐ lit 0) tt (pos (axle_at t i).load))

  -- no axle is farther from the leftmost than the train is long
  reach : (i : ℕ) → i < length t → distance way t i / h ≤ train_length t / h
  reach i l = subst (λ (k : ℕ). k ≤ train_length t / h) (right.at i l) (subst (λ (k : ℕ). (axle_at r.axles i).at ≤ k) right.reach (fits.at i (subst (λ (k : ℕ). i < k) (sym right.count) l)))

  -- such are the first place and the last
  pub first_none : f 0 ≡ pos 0
  first_none = place_none 0 (λ i l. before_left given 1 _ (let w = reach i l in ℕ→≤ (omega (arith, added (at 0) (pos (1 * (distance way t i / h))), subbed (pos 0) (pos (train_length t / h))))))

  pub last_none : f (2 * (n + train_length t / h) + 1) ≡ pos 0
  last_none =
      let k = n + train_length t / h in
      let e : (2 * k + 1) / 2 ≡ k = omega arith in
      place_none (2 * k + 1) (λ i l.
      ap₂ (λ (x : ℕ) (side : Side). ordinate given 1 (pos x -ℤ pos (train_length t / h) +ℤ pos (1 * (distance way t i / h))) side) e (odd_side (2 * k + 1) (λ z. omega arith))
      ∙ ap (λ (z : ℤ). ordinate given 1 z Right) (solve 3 (λ n l d. n ⊕ l ⊝ l ⊕ d ≐ n ⊕ d) tt (pos n) (pos (train_length t / h)) (pos (1 * (distance way t i / h))))
      ∙ off_right given (n + 1 * (distance way t i / h)) (omega arith))

  -- the best of the places is the best of the stations
  pub places_best : extreme q (2 * (n + train_length t / h)) f ≡ best_one_way mode q given t way
  unfolding best_one_way
  places_best =
      no_better_antisym q (extreme q (2 * k) f) (best_one_way mode q given t way)
      (extreme_least q (2 * k) f _ (λ p l. no_better_trans q (f p) (g (p / 2)) _ (one p) (extreme_bounds q k g (p / 2) (omega arith))))
      (extreme_least q k g _ (λ x l. better_least q _ _ _ (left x l) (elim (dec_le (suc x) k) [
        | yes m ↦ subst (λ (z : ℤ). NoBetter q z (extreme q (2 * k) f)) (at_odd x) (extreme_bounds q (2 * k) f (2 * x + 1) (omega arith))
        | no m ↦
            let e : x ≡ k = omega arith in
            subst (λ (z : ℤ). NoBetter q z (extreme q (2 * k) f)) (first_none ∙ sym last_none ∙ at_odd k ∙ ap right_effect (sym e)) (extreme_bounds q (2 * k) f 0 (omega arith))
      ])))
    where
      k : ℕ
      k = n + train_length t / h

      left_effect : ℕ → ℤ
      left_effect x = train_effect mode q given t 1 way (train_station given t x) Left

      right_effect : ℕ → ℤ
      right_effect x = train_effect mode q given t 1 way (train_station given t x) Right

      g : ℕ → ℤ
      g x = better q (left_effect x) (right_effect x)

      one : (p : ℕ) → NoBetter q (f p) (g (p / 2))
      one p = elim (ℕ_discrete (p % 2) 0) [
        | yes e ↦ subst (λ (side : Side). NoBetter q (train_effect mode q given t 1 way (train_station given t (p / 2)) side) (g (p / 2))) (sym (even_side p e)) (better_left q _ _)
        | no e ↦ subst (λ (side : Side). NoBetter q (train_effect mode q given t 1 way (train_station given t (p / 2)) side) (g (p / 2))) (sym (odd_side p e)) (better_right q _ _)
      ]

      at_odd : (x : ℕ) → f (2 * x + 1) ≡ right_effect x
      at_odd x = let e : (2 * x + 1) / 2 ≡ x = omega arith in ap₂ (λ (y : ℕ) (side : Side). train_effect mode q given t 1 way (train_station given t y) side) e (odd_side (2 * x + 1) (λ z. omega arith))

      at_even : (x : ℕ) → f (2 * x) ≡ left_effect x
      at_even x = let e : 2 * x / 2 ≡ x = omega arith in ap₂ (λ (y : ℕ) (side : Side). train_effect mode q given t 1 way (train_station given t y) side) e (even_side (2 * x) (omega arith))

      left : (x : ℕ) → x ≤ k → NoBetter q (left_effect x) (extreme q (2 * k) f)
      left x l = subst (λ (z : ℤ). NoBetter q z (extreme q (2 * k) f)) (at_even x) (extreme_bounds q (2 * k) f (2 * x) (omega arith))

-- ---- the best so far
pub found_first : (q : Question) (f : ℕ → ℤ) → f 0 ≡ pos 0 → BestOf q f 0 (record { value = pos 0; place = 0 })
found_first q f e = record { value = sym e; gives = e; late = omega arith; near = within_pos train_most (omega arith) }

-- with the next place, p
pub found_next : (q : Question) (f : ℕ → ℤ) (m p : ℕ) (b r : Best) (v : ℤ) → p ≡ m + 1 → Within train_most v → v ≡ f p → r ≡ (if beats q v b.value then record { value = v; place = p } else b) → BestOf q f m b → BestOf q f p r
found_next q f m p b r v e near is same found =
    subst (BestOf q f p) (sym same)
    (by_test (beats q v b.value) (λ t. BestOf q f p (if t then record { value = v; place = p } else b))
    (λ t. record { value = sym (beats_yes q v b.value t).1 ∙ step; gives = sym is; late = omega arith; near = near })
    (λ t. record { value = sym (beats_no q v b.value t).1 ∙ step; gives = found.gives; late = omega (arith, found.late); near = found.near }))
  where
    step : better q b.value v ≡ extreme q p f
    step = ap₂ (better q) found.value (is ∙ ap f e) ∙ sym (extreme_step q m f) ∙ ap (λ (k : ℕ). extreme q k f) (sym e)
