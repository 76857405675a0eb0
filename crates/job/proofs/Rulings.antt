-- How the verdict goes from test to test.
use Rattle.std.specs.Prelude.{if◌then◌else◌, None, Some}
use mathlib.Core.Path.{◌≡◌, refl, sym, ◌∙◌, subst}
use mathlib.Core.Bool.{Bool, true, false}
use mathlib.Core.List.{List}
use Prim.Native.Nat.{ℕ, ◌*◌, ◌≤◌, ◌<◌}
use native.Mathlib.Omega.{arith}
use lib.IntN.{pos}
use lib.ListN.{length}
use borrow.Author.Tests.{lt-leb}
use Rattle.words.specs.Words.{word_at}
use Rattle.model.specs.Format.{header_of, words, profile_of, is}
use Rattle.model.specs.Job.{Profile, highway, rural}
use Rattle.model.specs.Refusals.{fault1, fault2, job_verdict, job_tests, highway_verdict}
use Rattle.model.specs.declared.Header.{Header}
use Rattle.model.specs.declared.Part.TheVariants.{Head}
use Rattle.model.specs.declared.Edition.TheVariants.{First, Second, Third}
use Rattle.model.proofs.Verdict.{has_header, header_long, highway_verdict_lem, rural_verdict}
use Rattle.sections.specs.Sized.{Counted}
use Rattle.sections.proofs.Sizes.{counted}
use Rattle.job.proofs.Frames.{too_short}

-- what the first two tests give the others
module _ (b : List ℕ) {head : Header} (own : head ≡ header_of b) where
  pub header_there : fault1 b ≡ None → 4 * words head Head ≤ length b
  header_there e = subst (λ (h : Header). 4 * words h Head ≤ length b) (sym own) (has_header b e)

  pub counts_there : fault2 b ≡ None → Counted head
  counts_there e = subst Counted (sym own) (counted b e)

-- ---- a call that takes no rural bridge's job
-- fewer than ten words
pub short_refused : (b : List ℕ) → length b < 40 → highway_verdict b ≡ Some (record { number = 1; place = 0 })
unfolding job_verdict job_tests
short_refused b h = go (profile_of (header_of b).edition) refl
  where
    go : (p : Profile) → profile_of (header_of b).edition ≡ p → highway_verdict b ≡ Some (record { number = 1; place = 0 })
    go highway e = highway_verdict_lem b e ∙ rw (too_short b (lt-leb (4 * words (header_of b) Head) (length b) (omega (arith, header_long (header_of b))))) refl
    go rural e = rural_verdict b e

-- a rural bridge's job
pub rural_refused : (b : List ℕ) → word_at b 0 ≡ pos 4 → highway_verdict b ≡ Some (record { number = 1; place = 0 })
rural_refused b e = rural_verdict b (rw e refl)

-- any other
pub highway_only : (b : List ℕ) → is 4 (word_at b 0) ≡ false → job_verdict b ≡ highway_verdict b
highway_only b e = sym (highway_verdict_lem b (rw e (go (is 3 (word_at b 0)) (is 2 (word_at b 0)))))
  where
    go : (t u : Bool) → profile_of (if t then Third else (if u then Second else First)) ≡ highway
    go true u = refl
    go false true = refl
    go false false = refl
