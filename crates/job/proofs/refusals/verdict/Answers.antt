use borrow.Author.Rules.{rules}
use Rattle.model.specs.Refusals.{fault11, job_verdict, job_tests}
use Rattle.model.proofs.Verdict.{has_header}
use Rattle.sections.proofs.Sizes.{is_sized}
use Rattle.model.proofs.Rulings.{passed, refused}
use Rattle.job.proofs.Rulings.{header_there, counts_there}
use Rattle.job.proofs.refusals.verdict.Goals as goal

pub returns-in_err-refuse : goal.returns-in_err-refuse
unfolding job_verdict job_tests
returns-in_err-refuse c = refused 1 c.frame.ensures _ c.in_err-refuse.ensures c.from_residual.ensures.1

pub returns-in_err-refuse-2 : goal.returns-in_err-refuse-2
unfolding job_verdict job_tests
returns-in_err-refuse-2 c = rw (passed 1 c.frame.ensures c.in_ok-refuse.ensures) (refused 2 c.limits.ensures _ c.in_err-refuse-2.ensures c.from_residual-in_err-refuse-2.ensures.1)

pub returns-in_err-refuse-3 : goal.returns-in_err-refuse-3
unfolding job_verdict job_tests
returns-in_err-refuse-3 c = rw (passed 1 c.frame.ensures c.in_ok-refuse.ensures, passed 2 c.limits.ensures c.in_ok-refuse-2.ensures) (refused 11 {f = fault11 c.args.s.now} (search rules) _ c.in_err-refuse-3.ensures c.from_residual-in_err-refuse-3.ensures.1)

pub returns-in_err-refuse-4 : goal.returns-in_err-refuse-4
unfolding job_verdict job_tests
returns-in_err-refuse-4 c = rw (passed 1 c.frame.ensures c.in_ok-refuse.ensures, passed 2 c.limits.ensures c.in_ok-refuse-2.ensures, passed 11 c.width.ensures c.in_ok-refuse-3.ensures) (refused 3 c.count.ensures _ c.in_err-refuse-4.ensures c.from_residual-in_err-refuse-4.ensures.1)

pub returns-in_err-refuse-5 : goal.returns-in_err-refuse-5
unfolding job_verdict job_tests
returns-in_err-refuse-5 c = rw (passed 1 c.frame.ensures c.in_ok-refuse.ensures, passed 2 c.limits.ensures c.in_ok-refuse-2.ensures, passed 11 c.width.ensures c.in_ok-refuse-3.ensures, passed 3 c.count.ensures c.in_ok-refuse-4.ensures) (refused 4 c.ordinates.ensures _ c.in_err-refuse-5.ensures c.from_residual-in_err-refuse-5.ensures.1)

pub returns-in_err-refuse-6 : goal.returns-in_err-refuse-6
unfolding job_verdict job_tests
returns-in_err-refuse-6 c = rw (passed 1 c.frame.ensures c.in_ok-refuse.ensures, passed 2 c.limits.ensures c.in_ok-refuse-2.ensures, passed 11 c.width.ensures c.in_ok-refuse-3.ensures, passed 3 c.count.ensures c.in_ok-refuse-4.ensures, passed 4 c.ordinates.ensures c.in_ok-refuse-5.ensures) (refused 5 c.signs.ensures _ c.in_err-refuse-6.ensures c.from_residual-in_err-refuse-6.ensures.1)

pub returns-in_err-refuse-7 : goal.returns-in_err-refuse-7
unfolding job_verdict job_tests
returns-in_err-refuse-7 c = rw (passed 1 c.frame.ensures c.in_ok-refuse.ensures, passed 2 c.limits.ensures c.in_ok-refuse-2.ensures, passed 11 c.width.ensures c.in_ok-refuse-3.ensures, passed 3 c.count.ensures c.in_ok-refuse-4.ensures, passed 4 c.ordinates.ensures c.in_ok-refuse-5.ensures, passed 5 c.signs.ensures c.in_ok-refuse-6.ensures) (refused 6 c.table.ensures _ c.in_err-refuse-7.ensures c.from_residual-in_err-refuse-7.ensures.1)

pub returns : goal.returns
unfolding job_verdict job_tests
returns c = rw (passed 1 c.frame.ensures c.in_ok-refuse.ensures, passed 2 c.limits.ensures c.in_ok-refuse-2.ensures, passed 11 c.width.ensures c.in_ok-refuse-3.ensures, passed 3 c.count.ensures c.in_ok-refuse-4.ensures, passed 4 c.ordinates.ensures c.in_ok-refuse-5.ensures, passed 5 c.signs.ensures c.in_ok-refuse-6.ensures, passed 6 c.table.ensures c.in_ok-refuse-7.ensures) c.chains.ensures

pub read-head-requires : goal.read-head-requires
read-head-requires c = has_header _ (passed 1 c.frame.ensures c.in_ok-refuse.ensures)

pub limits-requires : goal.limits-requires
limits-requires c = (c.read-head.ensures, header_there c.args.s.now c.read-head.ensures (passed 1 c.frame.ensures c.in_ok-refuse.ensures))

pub width-requires : goal.width-requires
width-requires c =
    let own = c.read-head.ensures in
    (own, counts_there c.args.s.now own (passed 2 c.limits.ensures c.in_ok-refuse-2.ensures), header_there c.args.s.now own (passed 1 c.frame.ensures c.in_ok-refuse.ensures))

pub count-requires : goal.count-requires
count-requires c = (c.read-head.ensures, counts_there c.args.s.now c.read-head.ensures (passed 2 c.limits.ensures c.in_ok-refuse-2.ensures))

pub ordinates-requires : goal.ordinates-requires
ordinates-requires c = is_sized c.args.s.now c.read-head.ensures (passed 1 c.frame.ensures c.in_ok-refuse.ensures) (passed 2 c.limits.ensures c.in_ok-refuse-2.ensures) (passed 3 c.count.ensures c.in_ok-refuse-4.ensures)

pub signs-requires : goal.signs-requires
signs-requires c = is_sized c.args.s.now c.read-head.ensures (passed 1 c.frame.ensures c.in_ok-refuse.ensures) (passed 2 c.limits.ensures c.in_ok-refuse-2.ensures) (passed 3 c.count.ensures c.in_ok-refuse-4.ensures)

pub table-requires : goal.table-requires
table-requires c = is_sized c.args.s.now c.read-head.ensures (passed 1 c.frame.ensures c.in_ok-refuse.ensures) (passed 2 c.limits.ensures c.in_ok-refuse-2.ensures) (passed 3 c.count.ensures c.in_ok-refuse-4.ensures)

pub chains-requires : goal.chains-requires
chains-requires c = (is_sized c.args.s.now c.read-head.ensures (passed 1 c.frame.ensures c.in_ok-refuse.ensures) (passed 2 c.limits.ensures c.in_ok-refuse-2.ensures) (passed 3 c.count.ensures c.in_ok-refuse-4.ensures), passed 6 c.table.ensures c.in_ok-refuse-7.ensures)
