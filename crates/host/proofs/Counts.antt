-- The counts of an answer's account are small: a row is one of the job's, a carriageway has at most five lanes, and the records walked are at most R times E.
use mathlib.Core.Path.{sym, subst}
use mathlib.Core.List.{List}
use Prim.Native.Nat.{ℕ, ◌≤◌}
use native.Mathlib.Omega.{arith}
use Rattle.model.specs.Job.{Profile, highway, rural, Job, Limit, service, ultimate}
use Rattle.model.specs.Format.{profile_of, header_of}
use Rattle.model.specs.Decode.{row_count, decode}
use Rattle.model.specs.Answers.{State, Answer}
use Rattle.model.specs.Answered.{Answered, refused, accepted, account_in, state_in, StateRight}
use Rattle.std.specs.Prelude.{None, Some}
use Rattle.model.specs.declared.Account.{Account}
use Rattle.model.proofs.Verdict.{clear, job_accepted}
use Rattle.model.proofs.HeaderLimits.{HeaderFits, header_fits}
use Rattle.model.proofs.Lanes.{lane_count_lem, second_few_lem}
use Rattle.rows.proofs.RecordsWalked.{walked_512}
use Rattle.encode.specs.Encoding.{RowsFit, CountsFit}

module _ (job : Job) (patch : List ℕ) (a : Account) (few : job.rows ≤ 32) where
  rows_fit : (limit : Limit) (s : State) → StateRight job patch a limit s → RowsFit s
  rows_fit limit None r = tt
  rows_fit limit (Some x) r = (omega (arith, r.0.row_of.last), omega (arith, r.1.row_of.last))

-- a job of any loads has at most 32 rows
few_rows : (p : Profile) {given : ℕ} → given ≤ 32 → row_count p given ≤ 32
few_rows highway h = h
few_rows rural h = omega arith

pub counts_fit : {b before after : List ℕ} {x : Answer} → Answered b before x after → CountsFit (account_in x)
unfolding decode
counts_fit (refused r v u p) =
    subst (λ (y : Answer). CountsFit (account_in y)) (sym u) (record { service = tt; ultimate = tt; first = omega arith; second = omega arith; walked = omega arith })
counts_fit {b} {before} {after} {x} (accepted v a u r) =
    subst (λ (y : Answer). CountsFit (account_in y)) (sym u) (
    let n = lane_count_lem (decode b).deck.width in
    let m = second_few_lem (decode b) in
    record {
      service = row service;
      ultimate = row ultimate;
      first = omega (arith, r.account.first_count);
      second = omega (arith, r.account.second_count);
      walked = omega (arith, r.account.walked, walked_512 b (job_accepted b _ v));
    })
  where
    header : HeaderFits b
    header = header_fits b (clear b (job_accepted b _ v)).c2

    few : row_count (profile_of (header_of b).edition) (header_of b).rows ≤ 32
    few = few_rows (profile_of (header_of b).edition) header.rows.most

    row : (limit : Limit) → RowsFit (state_in a limit)
    row limit = rows_fit (decode b) after a few limit (state_in a limit) (r.account.states limit)
