use Rattle.ent_program_laws.proofs.Answered.{Laws, text_means}
use Rattle.ent_program_laws.proofs.check.check_text.Goals as goal

pub returns-clause-yes : goal.returns-clause-yes
returns-clause-yes c =
    let laws : Laws = record {
      yes = c.yes_is_said_of_reports_of_legal_books.ensures;
      one = c.texts_have_one_verdict.ensures;
    } in
    text_means laws c.args.text.now c.check_text.result c.check_text.ensures.verdict c.check_text.ensures.limit
