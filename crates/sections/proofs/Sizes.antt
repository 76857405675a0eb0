-- The sizes of the parts of a header, and the bytes of a part.
use Rattle.std.specs.Prelude.{if◌then◌else◌, None}
use mathlib.Core.Path.{◌≡◌, refl, sym, ◌∙◌, ap, ap₂, subst}
use mathlib.Core.List.{List}
use Prim.Native.Nat.{ℕ, ◌+◌, ◌-◌, ◌*◌, ◌≤◌, ◌<◌}
use native.Mathlib.Nat.{div-eq_of_lt, div-lt_iff_lt-mul, mul-le-mul}
use native.Mathlib.Omega.{arith}
use borrow.Author.Tests.{eqb-true}
use lib.Dec.{eqb}
use lib.ListN.{take, drop, length}
use Rattle.exact.proofs.Bridge.{by_test}
use Rattle.model.specs.Format.{profile_of, effect_unit, header_of, effect_fields, spaces, across_layout, words, start, words_due, section, section_of}
use Rattle.model.specs.declared.Header.{Header}
use Rattle.model.specs.declared.Part.{Part}
use Rattle.model.specs.declared.Part.TheVariants.{Head, Line, Transverse, SecondTransverse, Effects, Rows, Records}
use Rattle.model.specs.Refusals.{fault1, fault2, fault3}
use Rattle.model.proofs.HeaderLimits.{header_fits, second_most}
use Rattle.model.proofs.Sections.{section_length}
use Rattle.model.proofs.Verdict.{header_short, effect_size_lem, two_or_three, size_fits, part_inside}
use Rattle.sections.specs.Sized.{Counted, Sized}

-- a job without faults 1 to 3 has the bytes that its header calls for
pub is_sized : (b : List ℕ) {head : Header} → head ≡ header_of b → fault1 b ≡ None → fault2 b ≡ None → fault3 b ≡ None → Sized b head
is_sized b o e f g = record { own = o; within = f; due = size_fits b e g ∙ ap (λ (h : Header). 4 * words_due h) (sym o) }

-- a job without fault 2 has its counts within their limits
pub counted : (b : List ℕ) → fault2 b ≡ None → Counted (header_of b)
counted b e =
    let f = header_fits b e in
    record {
      pieces = f.pieces.most;
      spaced = omega (arith, f.spacing.least);
      spacing = f.spacing.most;
      wide = omega (arith, f.wide.least);
      width = f.wide.most;
      second = second_most f.carriageways;
      effects = f.effects.most;
      rows = f.rows.most;
      records = f.records.most;
    }

-- there are no more spaces than cm
pub few_spaces : {w g : ℕ} → w ≤ 2079 → 0 < g → spaces w g < 2080
few_spaces {w} {g} h p = let l : w + g - 1 < 2080 * g = omega arith in (div-lt_iff_lt-mul p).1 l

-- the ordinates across a carriageway are its spaces and the far edge
pub across_is : (w g : ℕ) → 0 < g → (across_layout w g).items ≡ spaces w g + (if eqb w 0 then 0 else 1)
across_is w g p =
    by_test (eqb w 0) (λ t. (if t then 0 else spaces w g + 1) ≡ spaces w g + (if t then 0 else 1))
    (λ t. let z = eqb-true w 0 t in let h : spaces w g ≡ 0 = div-eq_of_lt (omega arith) in omega arith)
    (λ _. refl)

-- so they are few
few_across : (w g : ℕ) → w ≤ 2079 → 0 < g → (across_layout w g).items ≤ 2080
few_across w g h p = by_test (eqb w 0) (λ t. (if t then 0 else spaces w g + 1) ≤ 2080) (λ _. omega arith) (λ _. omega (arith, few_spaces h p))

-- no part has more words than its counts allow
pub few_words : (head : Header) (part : Part) → Counted head → {p : ℕ} → p < words head part → p ≤ 27040
few_words head Head c h = omega (arith, header_short head)
few_words head Line c h = omega arith
few_words head Transverse c h = omega (arith, few_across head.width head.spacing c.width c.spaced)
few_words head SecondTransverse c h = omega (arith, few_across head.second head.spacing c.second c.spaced)
few_words head Effects c h =
    let u = effect_unit head.edition in
    let p = profile_of head.edition in
    let l : length (effect_fields u p) ≤ 3 = omega (arith, effect_size_lem u p, (two_or_three u).1) in
    omega (arith, mul-le-mul l c.effects)
few_words head Rows c h = omega arith
few_words head Records c h = omega arith

-- a part of a job from word m on, n words long, as the code cuts it
pub cut : (b : List ℕ) {m n k l : ℕ} → m ≡ k → n ≡ l → take (4 * m + 4 * n - 4 * m) (drop (4 * m) b) ≡ take (4 * l) (drop (4 * k) b)
cut b {m} {n} e f =
    let g : 4 * m + 4 * n - 4 * m ≡ 4 * n = omega arith in
    ap (λ (x : ℕ). take x (drop (4 * m) b)) g ∙ ap₂ (λ (x y : ℕ). take (4 * y) (drop (4 * x) b)) e f

module _ {b : List ℕ} {head : Header} (z : Sized b head) where
  -- its header's counts are within their limits
  pub counts : Counted head
  counts = subst Counted (sym z.own) (counted b z.within)

  -- a part is in the job
  pub part_in : (part : Part) → 4 * (start head part + words head part) ≤ length b
  part_in part =
      subst (λ (h : Header). 4 * (start h part + words h part) ≤ length b) (sym z.own)
      (part_inside b (z.due ∙ ap (λ (h : Header). 4 * words_due h) z.own) part)

  -- by the header at hand it is the job's own
  pub own_section : (part : Part) → section b head part ≡ section_of b part
  own_section part = ap (λ (h : Header). section b h part) z.own

  -- it has all its bytes
  pub part_length : (part : Part) → length (section_of b part) ≡ 4 * words (header_of b) part
  part_length part = section_length b (header_of b) part (part_inside b (z.due ∙ ap (λ (h : Header). 4 * words_due h) z.own) part)
