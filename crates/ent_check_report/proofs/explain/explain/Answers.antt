use Rattle.std.proofs.Common.{subst}
use Rattle.ent_report_reader.specs.Reports.{IsReportRead}
use Rattle.ent_check_report.proofs.Judged.{of_told}
use Rattle.ent_check_report.proofs.explain.explain.Goals as goal

pub explain_told-requires-clause-formed : goal.explain_told-requires-clause-formed
explain_told-requires-clause-formed c =
    c.told_histories_are_formed.ensures.opening c.args.text.now c.in-Ok.report.history
    (subst (IsReportRead c.args.text.now) c.in-Ok.is c.in_ok-report.ensures).1

pub explain_told-requires-clause-resolved : goal.explain_told-requires-clause-resolved
explain_told-requires-clause-resolved c =
    c.told_histories_are_formed.ensures.scripts c.args.text.now c.in-Ok.report.history
    (subst (IsReportRead c.args.text.now) c.in-Ok.is c.in_ok-report.ensures).1

pub explain_told-requires-clause-told : goal.explain_told-requires-clause-told
explain_told-requires-clause-told c finding =
    c.found_things_are_told.ensures c.in-Ok.report.history finding
    (c.told_histories_are_formed.ensures.formed c.args.text.now c.in-Ok.report.history
    (subst (IsReportRead c.args.text.now) c.in-Ok.is c.in_ok-report.ensures).1)

pub explain_told-requires-clause-lines : goal.explain_told-requires-clause-lines
explain_told-requires-clause-lines c =
    (c.args.text.now, (subst (IsReportRead c.args.text.now) c.in-Ok.is c.in_ok-report.ensures).2)

pub returns-in-Ok-clause-verdict : goal.returns-in-Ok-clause-verdict
returns-in-Ok-clause-verdict c =
    let read = subst (IsReportRead c.args.text.now) c.in-Ok.is c.in_ok-report.ensures in
    of_told (λ explained. explained.verdict) c.args.text.now c.in-Ok.report.history c.explain_told.result read.0 read.1
    (c.explain_told.ensures.verdict c.args.text.now read.2)
