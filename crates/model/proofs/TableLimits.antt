-- Refusals 6, 7 and 8: a job without them has effects, rows and records within their limits, and chains that neither come back nor name an effect twice.
use Rattle.std.specs.Prelude.{if◌then◌else◌, None}
use mathlib.Core.Path.{◌≡◌, sym, ◌∙◌, ap}
use mathlib.Core.Bool.{true, false, not, ◌||◌, false≢true}
use mathlib.Core.List.{List}
use Prim.Native.Nat.{ℕ, ◌+◌, ◌*◌, ◌<◌}
use native.Mathlib.Omega.{arith}
use lib.IntN.{ℤ, pos}
use lib.ListN.{length, get_or}
use borrow.Author.Tests.{not-true}
use Rattle.exact.specs.Bounds.{Within}
use Rattle.exact.specs.Choice.{between}
use Rattle.exact.specs.Parts.{up}
use Rattle.exact.proofs.Bridge.{by_test}
use Rattle.exact.proofs.Bounds.{within_le, within_pos, within_mul}
use Rattle.words.specs.Words.{word_at, count_at, wide}
use Rattle.words.specs.Fields.{free, item_from, misfit}
use Rattle.model.specs.Format.{profile_of, EffectUnit, kilonewtons, newtons, effect_unit, header_of, is, effect_fields, format, effect_size, section_of, size}
use Rattle.model.specs.Job.{Profile}
use Rattle.model.specs.Decode.{effect_value}
use Rattle.model.specs.Refusals.{row_tests, chain_returns, chain_names_twice, fault6, fault7, fault8}
use Rattle.model.specs.declared.Header.{Header}
use Rattle.model.specs.declared.Part.TheVariants.{Effects, Rows, Records}
use Rattle.model.proofs.Verdict.{effect_size_lem, two_or_three}
use Rattle.model.proofs.Counts.{Count, between_count, between_within}
use Rattle.words.proofs.Fits.{or_none, moved_none, fits, first_fits}

-- ---- 6: effects, rows and records, item i of each section counting from 0
-- an effect's value in N·U, within 1e14 in either unit
value_within : (u : EffectUnit) (p : Profile) (s : List ℕ) (i : ℕ) → let k = length (effect_fields u p) in get_or (effect_fields u p) 0 free (item_from s (k * i) i) (word_at s (k * i)) ≡ true → Within 100000000000000 (effect_value u s (effect_size u * i))
value_within kilonewtons p s i t = within_le (within_mul (within_pos 1000 (omega arith)) (between_within 1000000000 (word_at s (2 * i)) t)) (omega arith)
value_within newtons p s i t = between_within 100000000000000 (wide (word_at s (3 * i)) (word_at s (3 * i + 1))) t

pub record RowFits (s : List ℕ) (records i : ℕ) : Type 0 where
  pub limit : Count 1 2 (word_at s (size Rows * i))
  pub live : Count 0 2 (word_at s (size Rows * i + 1))
  pub factor : Count 0 3000 (word_at s (size Rows * i + 2))
  pub none : count_at s (size Rows * i + 1) ≡ 0 → count_at s (size Rows * i + 2) ≡ 0
  pub first : Count 0 records (word_at s (size Rows * i + 3))

pub record RecordFits (s : List ℕ) (effects records i : ℕ) : Type 0 where
  pub effect : Count 1 effects (word_at s (size Records * i))
  pub factor : Count 0 3000 (word_at s (size Records * i + 1))
  pub next : Count 0 records (word_at s (size Records * i + 2))

factor_limit : (live z : ℤ) → live ≡ pos (up live) → between (pos 0) (pos (if is 0 live then 0 else 3000)) z ≡ true → Count 0 3000 z × (up live ≡ 0 → up z ≡ 0)
factor_limit live z l =
    by_test (is 0 live) (λ t. between (pos 0) (pos (if t then 0 else 3000)) z ≡ true → Count 0 3000 z × (up live ≡ 0 → up z ≡ 0))
    (λ _ e. let c = between_count 0 0 z e in (record { is = c.is; least = omega arith; most = omega (arith, c.most) }, λ _. omega (arith, c.most)))
    (λ t e. (between_count 0 3000 z e, λ u. absurd (false≢true (sym t ∙ ap (is 0) (l ∙ ap pos u)))))

module _ (b : List ℕ) (clear : fault6 b ≡ None) (i : ℕ) where
  abbrev head : Header
  head = header_of b

  -- none of the three parts has a place at fault
  searches : (misfit (format head Effects) (section_of b Effects) ≡ None) × (misfit (format head Rows) (section_of b Rows) ≡ None) × (misfit (format head Records) (section_of b Records) ≡ None)
  unfolding fault6
  searches = let r = or_none _ _ clear in let t = or_none _ _ r.1 in (moved_none _ _ r.0, moved_none _ _ t.0, moved_none _ _ (or_none _ None t.1).0)

  -- an effect's value is within 1e14 N·U, in either unit
  pub effect_fits : i < head.effects → let u = effect_unit head.edition in Within 100000000000000 (effect_value u (section_of b Effects) (effect_size u * i))
  effect_fits h =
      let u = effect_unit head.edition in
      let p = profile_of head.edition in
      value_within u p _ i (first_fits (format head Effects) _ searches.0 i h (omega (arith, effect_size_lem u p, (two_or_three u).0)))

  -- and rows
  pub row_fits : i < head.rows → RowFits (section_of b Rows) head.records i
  row_fits h =
      let field = fits (format head Rows) (section_of b Rows) searches.1 i in
      let live : Count 0 2 (word_at (section_of b Rows) (size Rows * i + 1)) = between_count 0 2 _ (field 1 h (omega arith)) in
      let factor = factor_limit (word_at (section_of b Rows) (size Rows * i + 1)) (word_at (section_of b Rows) (size Rows * i + 2)) live.is (field 2 h (omega arith)) in
      record {
        limit = between_count _ _ _ (first_fits (format head Rows) _ searches.1 i h (omega arith));
        live = live;
        factor = factor.0;
        none = factor.1;
        first = between_count _ _ _ (field 3 h (omega arith));
      }

  -- and records
  pub record_fits : i < head.records → RecordFits (section_of b Records) head.effects head.records i
  record_fits h =
      let field = fits (format head Records) (section_of b Records) searches.2 i in
      record {
        effect = between_count _ _ _ (first_fits (format head Records) _ searches.2 i h (omega arith));
        factor = between_count _ _ _ (field 1 h (omega arith));
        next = between_count _ _ _ (field 2 h (omega arith));
      }

-- ---- 7 and 8: no row's chain comes back to a record or names an effect twice
module _ (b : List ℕ) (e : fault7 b ≡ None) (i : ℕ) (h : i < (header_of b).rows) where
  pub no_return : chain_returns b (i + 1) ≡ false
  unfolding fault7
  no_return = not-true _ (first_fits (row_tests (header_of b).rows (λ i. not (chain_returns b (i + 1)))) (section_of b Rows) (moved_none _ _ e) i h (omega arith))

  pub no_repeat : fault8 b ≡ None → chain_names_twice b (i + 1) ≡ false
  unfolding fault8
  no_repeat f = not-true _ (rw no_return at (first_fits (row_tests (header_of b).rows (λ i. chain_returns b (i + 1) || not (chain_names_twice b (i + 1)))) (section_of b Rows) (moved_none _ _ f) i h (omega arith)))
