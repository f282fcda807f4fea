use Rattle.ent_program_laws.proofs.VerdictRuns.{is_report}
use Rattle.ent_program_laws.proofs.unambiguous_law.told_texts_of_characters_are_reports.Goals as goal

pub returns : goal.returns
returns c = is_report c.told_texts_have_no_form_fault.ensures
