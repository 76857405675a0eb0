-- An accepted job's effect, row and record sections fit.
use mathlib.Core.Path.{◌≡◌, sym, ◌∙◌, ap}
use Rattle.std.specs.Prelude.{None}
use mathlib.Core.List.{List}
use Prim.Native.Nat.{ℕ, ◌+◌, ◌-◌, ◌*◌, ◌≤◌}
use native.Mathlib.Omega.{arith}
use lib.ListN.{length}
use Rattle.model.specs.Format.{profile_of, EffectUnit, kilonewtons, newtons, effect_unit, header_of, effect_fields, words, effect_bytes, section_of}
use Rattle.model.specs.Job.{Profile, rural}
use Rattle.model.specs.Decode.{first_record}
use Rattle.model.specs.Refusals.{job_verdict, chain_returns, chain_names_twice}
use Rattle.model.specs.declared.Part.{Part}
use Rattle.model.specs.declared.Part.TheVariants.{Effects, Rows, Records}
use Rattle.model.proofs.Sections.{section_length}
use Rattle.model.proofs.Verdict.{Clear, clear, size_fits, part_inside}
use Rattle.model.proofs.HeaderLimits.{header_fits}
use Rattle.model.proofs.TableLimits.{effect_fits, row_fits, record_fits, no_return, no_repeat}
use Rattle.omissions.specs.ChainTables.{EffectsInReach, RecordsInTables}
use Rattle.rows.specs.Tables.{RowInTables, TablesFit}
use Rattle.omissions.proofs.Terms.{distinct_terms}

-- effect e is one of n where its bytes are in theirs, and only there
effect_inside : (u : EffectUnit) (p : Profile) (n e : ℕ) → let bytes = 4 * (length (effect_fields u p) * n) in (effect_bytes u * e ≤ bytes → e ≤ n) × (e ≤ n → effect_bytes u * e ≤ bytes)
effect_inside kilonewtons p n e = (λ h. omega arith, λ h. omega arith)
effect_inside newtons p n e = (λ h. omega arith, λ h. omega arith)

module _ (b : List ℕ) (accepted : job_verdict b ≡ None) where
  c : Clear b
  c = clear b accepted

  long : (part : Part) → length (section_of b part) ≡ 4 * words (header_of b) part
  long part = section_length b (header_of b) part (part_inside b (size_fits b c.c1 c.c3) part)

  -- the effects' unit
  abbrev unit : EffectUnit
  unit = effect_unit (header_of b).edition

  pub inside : (e : ℕ) → (effect_bytes unit * e ≤ length (section_of b Effects) → e ≤ (header_of b).effects) × (e ≤ (header_of b).effects → effect_bytes unit * e ≤ length (section_of b Effects))
  inside e = rw (long Effects) (effect_inside unit (profile_of (header_of b).edition) (header_of b).effects e)

  effects : EffectsInReach unit (section_of b Effects)
  effects e h k = effect_fits b c.c6 (e - 1) (omega (arith, (inside e).0 k))

  records : RecordsInTables unit (section_of b Effects) (section_of b Records)
  records r h k =
      let f = record_fits b c.c6 (r - 1) (omega (arith, long Records)) in
      let most = (header_fits b c.c2).effects.most in
      record {
        effect = f.effect.least;
        most = omega (arith, f.effect.most);
        there = (inside _).1 f.effect.most;
        factor = f.factor.most;
        next = omega (arith, f.next.most, long Records);
      }

  rows : (r : ℕ) → 1 ≤ r → r ≤ (header_of b).rows → RowInTables (section_of b Records) (header_of b).records (section_of b Rows) r
  rows r h k =
      let f = row_fits b c.c6 (r - 1) (omega arith) in
      let same : r - 1 + 1 ≡ r = omega arith in
      record {
        live = f.live.most;
        factor = f.factor.most;
        first = omega (arith, f.first.most, long Records);
        distinct =
            distinct_terms (section_of b Records) (header_of b).records (first_record (section_of b Rows) r)
            (record { first = f.first.most; next = λ n l m. (record_fits b c.c6 (n - 1) (omega arith)).next.most })
            (ap (chain_returns b) (sym same) ∙ no_return b c.c7 (r - 1) (omega arith)) (ap (chain_names_twice b) (sym same) ∙ no_repeat b c.c7 (r - 1) (omega arith) c.c8);
      }

  eleven : profile_of (header_of b).edition ≡ rural → effect_bytes unit * 11 ≤ length (section_of b Effects)
  eleven e = (inside 11).1 (omega (arith, (header_fits b c.c2).eleven e))

  pub tables_fit : TablesFit (section_of b Effects) (section_of b Rows) (section_of b Records) (header_of b)
  tables_fit = record { effects = effects; records = records; long = omega (arith, long Rows); few = (header_fits b c.c2).rows.most; rows = rows; eleven = eleven }
