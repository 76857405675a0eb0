-- A row's best value by its chain's and its traffic.
use Rattle.std.specs.Prelude.{if◌then◌else◌}
use mathlib.Core.Path.{◌≡◌, refl, sym, ◌∙◌, ap, ap₂, subst}
use mathlib.Core.Bool.{Bool, true, false, true≢false}
use Prim.Native.Nat.{ℕ, ◌≤◌}
use native.Mathlib.Omega.{arith}
use lib.IntN.{ℤ, pos, ◌+ℤ◌, ◌*ℤ◌}
use Rattle.exact.specs.Questions.{better, beats, NoBetter, extreme}
use Rattle.exact.specs.declared.Question.{Question}
use Rattle.exact.specs.declared.Question.TheVariants.{Greatest, Least}
use Rattle.exact.proofs.Bridge.{by_test}
use Rattle.exact.proofs.Extremes.{no_better_refl, no_better_antisym, no_better_add, better_left, better_right, better_ind, beats_yes, beats_no, better_first, better_second}
use Rattle.exact.proofs.Ring.{◌⊕◌, ◌⊗◌, lit, ◌≐◌, solve}
use Rattle.model.specs.Job.{Effect, Live, Row}
use Rattle.model.specs.Rows.{row_value, best_chain, best_row}
use Rattle.model.specs.declared.{ByLive.ByLive, Governing.Governing}
use Rattle.omissions.specs.declared.Chained.{Chained}
use Rattle.omissions.specs.Chained.{ChainRight}
use Rattle.rows.specs.Governed.{live_value, laden_row, AlternativeRight, RowRight, better_row}

-- ---- a row by an alternative's chain and its traffic
module _ (q : Question) (effect : ℕ → Effect) (row : Row) (v : ByLive ℤ) (a : ℕ) (x : Chained) (right : ChainRight q effect (row.chain a) x) where
  abbrev own : ℤ
  own = pos row.factor *ℤ live_value v row.live

  zero_last : (z : ℤ) → z +ℤ pos 0 ≡ z
  zero_last z = solve 1 (λ z. z ⊕ lit 0 ≐ z) tt z

  zero_times : pos row.factor *ℤ pos 0 ≡ pos 0
  zero_times = solve 1 (λ f. f ⊗ lit 0 ≐ lit 0) tt (pos row.factor)

  never : (q : Question) → beats q (pos 0) (pos 0) ≡ false
  never Greatest = refl
  never Least = refl

  -- row r, its traffic left out or counting
  abbrev by : (r k : ℕ) → Bool → ℤ → Governing
  by r k b z = if b then record { value = x.value; row = r; omitted = x.omitted; unladen = true; k = k } else record { value = x.value +ℤ z; row = r; omitted = x.omitted; unladen = false; k = k }

  -- it is row r, shows k and is right by the alternative
  abbrev Shows : (r k : ℕ) → Governing → Type 0
  Shows r k g = (g.row ≡ r) × (g.k ≡ k) × AlternativeRight q effect row (live_value v) a g

  laden_right : (r k : ℕ) → Shows r k (laden_row q r k x own)
  unfolding row_value
  laden_right r k =
      by_test (beats q (pos 0) own) (λ b. Shows r k (by r k b own))
      (λ b. (
        refl,
        refl,
        record {
          value = sym (zero_last x.value) ∙ ap₂ ◌+ℤ◌ right.value (sym (better_first q (pos 0) own b));
          may_omit = right.may_omit;
          gives = ap₂ ◌+ℤ◌ right.gives zero_times ∙ zero_last x.value;
          laden = λ e. absurd (true≢false (sym b ∙ ap (beats q (pos 0)) (ap (λ (l : Live). pos row.factor *ℤ live_value v l) e ∙ zero_times) ∙ never q));
        },
      ))
      (λ b. (
        refl,
        refl,
        record {
          value = ap₂ ◌+ℤ◌ right.value (sym (better_second q (pos 0) own b));
          may_omit = right.may_omit;
          gives = ap (λ (z : ℤ). z +ℤ own) right.gives;
          laden = λ _. refl;
        },
      ))

  pub laden_is : (r k : ℕ) {g : Governing} {z : ℤ} → g ≡ laden_row q r k x z → z ≡ own → Shows r k g
  laden_is r k {g} e p = let is : g ≡ laden_row q r k x own = e ∙ ap (laden_row q r k x) p in rw is (laden_right r k)

-- ---- a row by its best alternative
module _ (q : Question) (effect : ℕ → Effect) (row : ℕ → Row) (traffic : Live → ℤ) where
  -- a row's best traffic
  abbrev load : ℕ → ℤ
  load r = better q (pos 0) (pos (row r).factor *ℤ traffic (row r).live)

  -- it is row r, and right
  abbrev Its : (r : ℕ) → Governing → Type 0
  Its r x = (x.row ≡ r) × RowRight q effect row traffic x

  -- an alternative, whose k it shows, is as good as the row
  by_alternative : (r a : ℕ) (x : Governing) → x.row ≡ r → a ≤ (row r).others → x.k ≡ (row r).k a → x.value ≡ best_row q effect traffic (row r) → AlternativeRight q effect (row r) traffic a x → Its r x
  by_alternative r a x e among shown value right = (
    e,
    record { value = rw e value; alternative = a; among = rw e among; right = subst (λ (n : ℕ). AlternativeRight q effect (row n) traffic a x) (sym e) right; shown = rw e shown },
  )

  -- there is but one
  pub one_alternative : (r : ℕ) (x : Governing) → (row r).others ≡ 0 → x.row ≡ r → x.k ≡ (row r).k 0 → AlternativeRight q effect (row r) traffic 0 x → Its r x
  unfolding best_row
  one_alternative r x one e shown right =
      by_alternative r 0 x e (rw one (omega arith)) shown (right.value ∙ ap (λ (n : ℕ). extreme q n (λ a. best_chain q effect ((row r).chain a)) +ℤ load r) (sym one)) right

  -- one of two that neither beats, each with z more, is the better
  best_of_both : (x y w z : ℤ) → NoBetter q w (better q x y) → NoBetter q (x +ℤ z) (w +ℤ z) → NoBetter q (y +ℤ z) (w +ℤ z) → w +ℤ z ≡ better q x y +ℤ z
  best_of_both x y w z one f g = no_better_antisym q (w +ℤ z) (better q x y +ℤ z) (no_better_add q w (better q x y) z z one (no_better_refl q z)) (better_ind q (λ v. NoBetter q (v +ℤ z) (w +ℤ z)) x y f g)

  -- there are two, of which the later counts if it is better
  pub two_alternatives : (r : ℕ) (x y : Governing) → (row r).others ≡ 1 → x.row ≡ r → y.row ≡ r → x.k ≡ (row r).k 0 → y.k ≡ (row r).k 1 →
      AlternativeRight q effect (row r) traffic 0 x → AlternativeRight q effect (row r) traffic 1 y → Its r (better_row q x y)
  unfolding best_row
  two_alternatives r x y two ex ey kx ky rx ry =
      by_test (beats q y.value x.value) (λ t. Its r (if t then y else x))
      (λ e. by_alternative r 1 y ey (rw two (omega arith)) ky (ry.value ∙ best_of_both (best 0) (best 1) (best 1) (load r) (better_right q (best 0) (best 1)) (subst₂ rx.value ry.value (beats_yes q y.value x.value e).0) (no_better_refl q _) ∙ whole) ry)
      (λ e. by_alternative r 0 x ex (rw two (omega arith)) kx (rx.value ∙ best_of_both (best 0) (best 1) (best 0) (load r) (better_left q (best 0) (best 1)) (no_better_refl q _) (subst₂ ry.value rx.value (beats_no q y.value x.value e).0) ∙ whole) rx)
    where
      best : ℕ → ℤ
      best a = best_chain q effect ((row r).chain a)

      whole : better q (best 0) (best 1) +ℤ load r ≡ extreme q (row r).others best +ℤ load r
      whole = ap (λ (n : ℕ). extreme q n best +ℤ load r) (sym two)

      subst₂ : {v w z u : ℤ} → v ≡ z → w ≡ u → NoBetter q v w → NoBetter q z u
      subst₂ {v} {w} {z} {u} e f h = subst (NoBetter q z) f (subst (λ (i : ℤ). NoBetter q i w) e h)
