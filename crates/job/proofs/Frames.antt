-- Refusal 1 by its three tests, and word 0 as the code reads it.
use mathlib.Core.Path.{◌≡◌, refl, sym, ◌∙◌, ap, subst}
use mathlib.Core.Bool.{Bool, true, false, ◌&&◌, and-true}
use Rattle.std.specs.Prelude.{Some}
use mathlib.Core.List.{List}
use native.Mathlib.Omega.{arith}
use Prim.Native.Nat.{ℕ, ◌*◌, ◌%◌}
use lib.Dec.{eqb, leb}
use lib.IntN.{ℤ}
use lib.ListN.{length}
use Rattle.words.specs.Words.{word_at}
use Rattle.model.specs.Format.{header_of, is, edition_number, edition_of, format, words}
use Rattle.model.specs.Refusals.{unless, fault1}
use Rattle.model.specs.declared.Edition.{Edition}
use Rattle.model.specs.declared.Header.{Header}
use Rattle.model.specs.declared.Part.TheVariants.{Head}

module _ (b : List ℕ) where
  -- the header's words are there
  abbrev pub long : Bool
  long = leb (4 * words (header_of b) Head) (length b)

  -- the bytes are whole words
  abbrev pub whole : Bool
  whole = eqb (length b % 4) 0

  -- word 0 is the edition's number
  abbrev pub named : Bool
  named = is (edition_number (header_of b).edition) (word_at b 0)

  pub too_short : long ≡ false → fault1 b ≡ Some 0
  unfolding fault1
  too_short e = ap (λ (t : Bool). unless ((t && whole) && named) 0) e

  pub not_whole : whole ≡ false → fault1 b ≡ Some 0
  unfolding fault1
  not_whole e = ap (λ (t : Bool). unless ((long && t) && named) 0) e ∙ go long
    where
      go : (t : Bool) → unless ((t && false) && named) 0 ≡ Some 0
      go true = refl
      go false = refl

  pub framed_by : whole ≡ true → {t : Bool} → (long && named) ≡ t → fault1 b ≡ unless t 0
  unfolding fault1
  framed_by w e = ap (λ (t : Bool). unless ((long && t) && named) 0) w ∙ go long named e
    where
      go : (l n : Bool) {t : Bool} → (l && n) ≡ t → unless ((l && true) && n) 0 ≡ unless t 0
      go true n e = ap (λ (t : Bool). unless t 0) e
      go false n e = ap (λ (t : Bool). unless t 0) e

  -- word 0 names an edition of so many words
  pub edition_there : {e : Edition} {x : ℤ} {n : ℕ} → x ≡ word_at b 0 → (e ≡ edition_of x) × (is (edition_number e) x ≡ true) → ((head : Header) → head.edition ≡ e → n ≡ length (format head Head).fields) →
      leb (4 * n) (length b) ≡ (long && named)
  edition_there {x = x} {n = n} w h k =
      let known = subst (λ (x : ℤ). is (edition_number (edition_of x)) x ≡ true) w (subst (λ (e : Edition). is (edition_number e) x ≡ true) h.0 h.1) in
      let due : 4 * n ≡ 4 * words (header_of b) Head = omega (arith, k (header_of b) (sym (h.0 ∙ ap edition_of w))) in
      rw (due, known) (sym (and-true long))
