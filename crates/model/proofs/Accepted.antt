-- What an accepted job is, decoded.
use Rattle.std.specs.Prelude.{if◌then◌else◌, None}
use mathlib.Core.Path.{◌≡◌, refl, ◌∙◌, ap}
use mathlib.Core.List.{List}
use Prim.Native.Nat.{ℕ, ◌<◌}
use native.Mathlib.Omega.{arith}
use lib.Dec.{ltb}
use borrow.Author.Tests.{lt-ltb}
use Rattle.model.specs.Format.{profile_of, header_of}
use Rattle.model.specs.Job.{rural}
use Rattle.model.specs.Decode.{decode}
use Rattle.model.specs.Lanes.{lane_count, lanes}
use Rattle.model.specs.Refusals.{job_verdict}
use Rattle.model.proofs.Verdict.{clear}
use Rattle.model.proofs.HeaderLimits.{header_fits, rural_width, rural_second, whole_spacing}
use Rattle.model.proofs.Lanes.{Spaced, one_carriageway}
use Rattle.model.proofs.LineLimits.{OneSigned, one_signed}

-- both carriageways have the same g
pub one_spacing : (b : List ℕ) → (decode b).second.g ≡ (decode b).deck.g
unfolding decode
one_spacing b = refl

module _ (b : List ℕ) (accepted : job_verdict b ≡ None) where
  -- its pieces have one sign each
  pub accepted_signed : OneSigned (decode b).line
  accepted_signed = one_signed b (clear b accepted).c5

  -- its transverse ordinates are some way apart
  pub accepted_spaced : Spaced (decode b)
  unfolding decode
  accepted_spaced = let s = (header_fits b (clear b accepted).c2).spacing in (omega (arith, s.least), omega (arith, s.least))

  -- its pieces have a length
  pub accepted_length : 0 < (decode b).line.h
  unfolding decode
  accepted_length = (whole_spacing _ (header_fits b (clear b accepted).c2).length).0

  -- a rural bridge has one lane
  pub accepted_one_lane : profile_of (header_of b).edition ≡ rural → lanes (decode b) ≡ 1
  unfolding decode lane_count
  accepted_one_lane r =
      let w = (header_of b).width in
      let narrow = rural_width b (clear b accepted).c11 r in
      (one_carriageway (decode b) (rural_second b r)).0 ∙ ap (λ t. if t then 1 else (if ltb w 970 then 2 else (if ltb w 1340 then 3 else (if ltb w 1710 then 4 else 5)))) (lt-ltb w 600 (omega (arith, narrow)))
