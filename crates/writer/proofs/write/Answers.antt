use mathlib.Core.Path.{refl}
use Prim.Native.Nat.{◌≤◌}
use native.Mathlib.Omega.{arith}
use borrow.Author.Rules.{rules}
use lib.ListN.{length}
use Rattle.numbers.proofs.Stores.{natural}
use Rattle.numbers.proofs.Reading.{in_front}
use Rattle.writer.specs.FormWritten.{refused, written}
use Rattle.writer.proofs.write.Goals as goal

pub returns-in-Ok : goal.returns-in-Ok
returns-in-Ok c =
    let f = c.in-Ok.ensures in
    let room : 8 ≤ length c.args.report.now = omega (arith, c.if-report-lt-REPORT_SIZE.false) in
    let report = in_front (natural f.1 c.put_count.ensures) refl refl room (search rules) in
    written room f.0 refl f.3 report.0 report.1

pub returns-in-Err : goal.returns-in-Err
returns-in-Err c =
    let f = c.in-Err.ensures in
    let r = c.refused-in-Err.ensures in
    refused (omega (arith, c.if-report-lt-REPORT_SIZE.false)) _ f.0 r.0 f.1 r.1
