-- The records walked of a job are at most R times E, for a chain names each effect at most once.
use mathlib.Core.Path.{◌≡◌, ◌∙◌, ap}
use Rattle.std.specs.Prelude.{None}
use mathlib.Core.List.{List}
use Prim.Native.Nat.{ℕ, ◌*◌, ◌≤◌}
use native.Mathlib.Nat.{le_refl, le_trans, mul-le-mul_right}
use native.Mathlib.Omega.{arith}
use lib.ListN.{length}
use Rattle.model.specs.Job.{Profile, highway, rural}
use Rattle.model.specs.Format.{profile_of, header_of, bytes}
use Rattle.model.specs.Chains.{record_effect}
use Rattle.model.specs.Decode.{first_record, terms_from, row_count, row_of, decode}
use Rattle.model.specs.Refusals.{job_verdict}
use Rattle.model.specs.RecordsWalked.{walked_to, records_walked}
use Rattle.model.specs.declared.Header.{Header}
use Rattle.model.specs.declared.Part.TheVariants.{Records}
use Rattle.model.proofs.Verdict.{clear}
use Rattle.model.proofs.HeaderLimits.{header_fits}
use Rattle.model.proofs.RecordsWalked.{rural_none, walked_most}
use Rattle.omissions.proofs.Few.{few}
use Rattle.omissions.proofs.Omissions.{terms_named}
use Rattle.rows.specs.Tables.{TablesFit}
use Rattle.rows.proofs.Sections.{inside, tables_fit}

module _ {e w s : List ℕ} {head : Header} (fits : TablesFit e w s head) where
  -- no chain is longer than the effects that records name: it names each at most once
  module _ (m : ℕ) (named : (c : ℕ) → 1 ≤ c → bytes Records * c ≤ length s → record_effect s c ≤ m) where
    chain_few : (r : ℕ) → 1 ≤ r → r ≤ head.rows → length (terms_from s head.records (first_record w r)) ≤ m
    chain_few r h k =
        let f = fits.rows r h k in
        few m (terms_from s head.records (first_record w r)) f.distinct (terms_named m s (λ c h k. let t = fits.records c h k in (t.effect, named c h k, t.next)) head.records (first_record w r) f.first)

    -- so the first rows have at most so many for each row that the header gives
    walked_few : (p : Profile) (n : ℕ) → n ≤ row_count p head.rows → walked_to p (row_of p w s head.records) n ≤ head.rows * m
    walked_few highway n h = le_trans (walked_most highway (row_of highway w s head.records) m n (λ r l k. chain_few r l (omega arith))) (mul-le-mul_right m h)
    walked_few rural n h = omega (arith, rural_none (row_of rural w s head.records) n)

  pub walked_near : (p : Profile) (n : ℕ) → n ≤ row_count p head.rows → walked_to p (row_of p w s head.records) n ≤ 512
  walked_near p n h = omega (arith, walked_few 16 (λ c h k. (fits.records c h k).most) p n h, fits.few)

module _ (b : List ℕ) (accepted : job_verdict b ≡ None) where
  -- the records walked are at most R times E
  pub walked_bound : records_walked (decode b) ≤ (header_of b).rows * (header_of b).effects
  unfolding decode
  walked_bound =
      let fits = tables_fit b accepted in
      let p = profile_of (header_of b).edition in
      walked_few fits (header_of b).effects (λ c h k. (inside b accepted _).0 (fits.records c h k).there) p (row_count p (header_of b).rows) (le_refl _)

  -- and at most 512
  pub walked_512 : records_walked (decode b) ≤ 512
  unfolding decode
  walked_512 = let p = profile_of (header_of b).edition in walked_near (tables_fit b accepted) p (row_count p (header_of b).rows) (le_refl _)

  -- of a rural bridge both are 0
  pub rural_bound : profile_of (header_of b).edition ≡ rural → (records_walked (decode b) ≡ 0) × ((header_of b).rows * (header_of b).effects ≡ 0)
  unfolding decode
  rural_bound r = (
    ap (λ (p : Profile). walked_to p (decode b).row (decode b).rows) r ∙ rural_none (decode b).row (decode b).rows,
    omega (arith, ap (λ (n : ℕ). n * (header_of b).effects) ((header_fits b (clear b accepted).c2).unlisted r)),
  )
