use Rattle.ent_program_laws.proofs.Answered.{Laws, report_means}
use Rattle.ent_program_laws.proofs.check.check_report.Goals as goal

pub returns-clause-yes : goal.returns-clause-yes
returns-clause-yes g c =
    let laws : Laws = record {
      yes = c.yes_is_said_of_reports_of_legal_books.ensures;
      one = c.texts_have_one_verdict.ensures;
    } in
    report_means laws (g.R.Read.remaining c.args.reader.now.inner) c.check_report.result c.check_report.ensures.verdict
    c.check_report.ensures.limit
