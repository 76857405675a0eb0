use mathlib.Core.Path.{refl}
use native.Mathlib.Omega.{arith}
use Rattle.std.proofs.lemmas.Result.{err_from_is_err_and}
use Rattle.model.specs.Refusals.{highway_verdict}
use Rattle.model.proofs.Rulings.{is_refused, is_accepted}
use Rattle.model.proofs.Verdict.{clear, has_header, highway_accepted, write_refuses, form_refused, form_holds}
use Rattle.writer.proofs.form.Goals as goal

pub returns-in_err-highway_verdict : goal.returns-in_err-highway_verdict
returns-in_err-highway_verdict c =
    let p = err_from_is_err_and c.from_residual.result c.from_residual.ensures.1 in
    rw (p.1, p.2) (write_refuses _ _ (is_refused (highway_verdict c.args.job.now) c.in_err-highway_verdict.ensures), refl)

pub read-head-requires : goal.read-head-requires
read-head-requires c = has_header _ (clear _ (highway_accepted _ (is_accepted (highway_verdict c.args.job.now) c.in_ok-highway_verdict.ensures)).1).c1

pub count-records-requires : goal.count-records-requires
count-records-requires c = record { own = c.read-head.ensures; accepted = is_accepted (highway_verdict c.args.job.now) c.in_ok-highway_verdict.ensures }

pub size-bytes-requires : goal.size-bytes-requires
size-bytes-requires c = (record { own = c.read-head.ensures; accepted = is_accepted (highway_verdict c.args.job.now) c.in_ok-highway_verdict.ensures }, c.count-records.ensures.0, c.count-records.ensures.1)

pub returns-then-out-bytes : goal.returns-then-out-bytes
returns-then-out-bytes c =
    let bytes = c.size-bytes.ensures.0 in
    (rw bytes (form_refused _ _ (is_accepted (highway_verdict c.args.job.now) c.in_ok-highway_verdict.ensures) (omega (arith, bytes, c.if-out-bytes.true))), refl)

pub put_form-requires : goal.put_form-requires
put_form-requires c =
    (record { own = c.read-head.ensures; accepted = is_accepted (highway_verdict c.args.job.now) c.in_ok-highway_verdict.ensures }, c.count-records.ensures.0, omega (arith, c.size-bytes.ensures.0, c.if-out-bytes.false))

pub returns : goal.returns
returns c =
    let bytes = c.size-bytes.ensures in
    (form_holds _ _ (is_accepted (highway_verdict c.args.job.now) c.in_ok-highway_verdict.ensures) (omega (arith, bytes.0, c.if-out-bytes.false)), bytes.0, bytes.1, c.put_form.ensures)
