use mathlib.Core.Path.{◌≡◌, refl, sym, ap, subst}
use Rattle.std.specs.Prelude.{None, Ok, Err}
use mathlib.Core.List.{List, ◌++◌}
use Prim.Native.Nat.{ℕ}
use native.Mathlib.Omega.{arith}
use lib.ListN.{length, drop}
use Rattle.model.specs.Format.{header_of, section_of}
use Rattle.model.specs.Decode.{decode, influence_line}
use Rattle.model.specs.Line.{patch_bytes}
use Rattle.model.specs.Refusals.{job_verdict, verdict, as_result}
use Rattle.model.specs.Answered.{Answered, refused, accepted, AccountRight}
use Rattle.model.specs.declared.Account.{Account}
use Rattle.model.specs.declared.Header.{Header}
use Rattle.model.specs.declared.Part.TheVariants.{Line}
use Rattle.model.proofs.Verdict.{clear, has_header, job_refuses, short_refused, long_accepted}
use Rattle.sections.proofs.Sizes.{counts}
use Rattle.model.proofs.Rulings.{is_refused, is_accepted}
use Rattle.pair.specs.LineFits.{LineFits}
use Rattle.line.proofs.Fitting.{fits_fewer}
use Rattle.accepted.specs.AccountParts.{Ready, PartsRight}
use Rattle.accepted.proofs.Fits.{sized, line_fits, signed, spaced}
use Rattle.kernel.proofs.Right.{account_right}
use Rattle.kernel.proofs.solve.Goals as goal

-- from the header on
ready : {b : List ℕ} {head : Header} {u : Unit {0}} → head ≡ header_of b → Ok u ≡ as_result (job_verdict b) → Ready b head
ready {b} own says = record { own = own; accepted = is_accepted (job_verdict b) says }

pieces : (b : List ℕ) {head : Header} → head ≡ header_of b → head.pieces ≡ (header_of b).pieces
pieces b own = ap (λ (h : Header). h.pieces) own

-- the account with its patch bytes written is the whole answer
answers : {b before after line : List ℕ} {head : Header} (r : Ready b head) → line ≡ section_of b Line → after ≡ patch_bytes (influence_line line (header_of b).h head.pieces) ++ drop head.pieces before →
    (a : Account) → PartsRight (decode b) a → verdict b (length before) ≡ None → Answered b before (Ok a) after
unfolding decode
answers {b} {before} {after} {line} {head} r l m a p v =
    let marked : after ≡ patch_bytes (decode b).line ++ drop (header_of b).pieces before =
    subst (λ (h : Header). after ≡ patch_bytes (influence_line (section_of b Line) (header_of b).h h.pieces) ++ drop h.pieces before) r.own
    (subst (λ (l : List ℕ). after ≡ patch_bytes (influence_line l (header_of b).h head.pieces) ++ drop head.pieces before) l m) in
    accepted v a refl
    (record {
      account = subst (λ (l : List ℕ). AccountRight (decode b) l a) (sym marked) (account_right (decode b) (signed r) (spaced r) (drop (header_of b).pieces before) a p);
      patch = marked;
    })

pub returns-in-Err : goal.returns-in-Err
returns-in-Err c = refused _ (job_refuses _ _ (is_refused (job_verdict c.args.job.now) c.in-Err.ensures)) refl refl

pub read-head-requires : goal.read-head-requires
read-head-requires c =
    let b = c.args.job.now in
    has_header b (clear b (is_accepted (job_verdict b) c.in_default.ensures)).c1

pub overflow_cast-result : goal.overflow_cast-result
overflow_cast-result c = omega (arith, (counts (sized (ready c.read-head.ensures c.in_default.ensures))).pieces)

pub returns-then-patch-head : goal.returns-then-patch-head
returns-then-patch-head c =
    refused _ (short_refused _ _ (ready c.read-head.ensures c.in_default.ensures).accepted (omega (arith, pieces c.args.job.now c.read-head.ensures, c.if-patch-head.true))) (ap (λ n. Err (record { number = 9; place = n })) (pieces c.args.job.now c.read-head.ensures)) refl

pub account-account-requires : goal.account-account-requires
account-account-requires c = ready c.read-head.ensures c.in_default.ensures

pub section-requires : goal.section-requires
section-requires c = sized (ready c.read-head.ensures c.in_default.ensures)

pub mark-requires : goal.mark-requires
mark-requires c =
    let fits = subst (λ (l : List ℕ). LineFits l c.read-head.result.pieces) (sym c.section.ensures) (line_fits (ready c.read-head.ensures c.in_default.ensures)) in
    record { line_fits = fits_fewer fits (omega arith); n_in_bounds = omega (arith, c.if-patch-head.false) }

pub returns : goal.returns
returns c =
    let r = ready c.read-head.ensures c.in_default.ensures in
    answers r c.section.ensures (c.mark.ensures _) c.account-account.result c.account-account.ensures
    (long_accepted _ _ r.accepted (omega (arith, pieces c.args.job.now c.read-head.ensures, c.if-patch-head.false)))
