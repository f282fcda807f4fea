use Rattle.ent_program_laws.proofs.VerdictTold.{Laws, report_again, reported, told_again}
use Rattle.ent_program_laws.proofs.verdict_law.books_of_told_histories_are_told.Goals as goal

pub returns-clause-again : goal.returns-clause-again
returns-clause-again c =
    let laws : Laws = record {
      first = c.first_fault_is_first.ensures.script;
      formed = c.told_histories_are_formed.ensures.formed;
      opened = c.told_histories_are_formed.ensures.opening;
      told = c.told_histories_can_be_told.ensures;
      text = c.reports_tell_of_books.ensures;
    } in
    told_again laws

pub returns-clause-report : goal.returns-clause-report
returns-clause-report c =
    let laws : Laws = record {
      first = c.first_fault_is_first.ensures.script;
      formed = c.told_histories_are_formed.ensures.formed;
      opened = c.told_histories_are_formed.ensures.opening;
      told = c.told_histories_can_be_told.ensures;
      text = c.reports_tell_of_books.ensures;
    } in
    report_again laws

pub returns-clause-reported : goal.returns-clause-reported
returns-clause-reported c =
    let laws : Laws = record {
      first = c.first_fault_is_first.ensures.script;
      formed = c.told_histories_are_formed.ensures.formed;
      opened = c.told_histories_are_formed.ensures.opening;
      told = c.told_histories_can_be_told.ensures;
      text = c.reports_tell_of_books.ensures;
    } in
    reported laws
