use Rattle.std.proofs.Common.{subst}
use Rattle.ent_report_reader.specs.Reports.{IsReportRead}
use Rattle.ent_check_report.proofs.Judged.{of_told}
use Rattle.ent_check_report.proofs.check.judge.Goals as goal

pub judge_told-requires-clause-formed : goal.judge_told-requires-clause-formed
judge_told-requires-clause-formed c =
    c.told_histories_are_formed.ensures.opening c.args.text.now c.in-Ok.report.history
    (subst (IsReportRead c.args.text.now) c.in-Ok.is c.in_ok-report.ensures).1

pub judge_told-requires-clause-resolved : goal.judge_told-requires-clause-resolved
judge_told-requires-clause-resolved c =
    c.told_histories_are_formed.ensures.scripts c.args.text.now c.in-Ok.report.history
    (subst (IsReportRead c.args.text.now) c.in-Ok.is c.in_ok-report.ensures).1

pub judge_told-requires-clause-told : goal.judge_told-requires-clause-told
judge_told-requires-clause-told c finding =
    c.found_things_are_told.ensures c.in-Ok.report.history finding
    (c.told_histories_are_formed.ensures.formed c.args.text.now c.in-Ok.report.history
    (subst (IsReportRead c.args.text.now) c.in-Ok.is c.in_ok-report.ensures).1)

pub judge_told-requires-clause-lines : goal.judge_told-requires-clause-lines
judge_told-requires-clause-lines c =
    (c.args.text.now, (subst (IsReportRead c.args.text.now) c.in-Ok.is c.in_ok-report.ensures).2)

pub returns-in-Ok : goal.returns-in-Ok
returns-in-Ok c =
    let read = subst (IsReportRead c.args.text.now) c.in-Ok.is c.in_ok-report.ensures in
    of_told (λ verdict. verdict) c.args.text.now c.in-Ok.report.history c.judge_told.result read.0 read.1
    (c.judge_told.ensures c.args.text.now read.2)
