use Rattle.ent_program_laws.proofs.VerdictRuns.{no_form_fault}
use Rattle.ent_program_laws.proofs.unambiguous_law.told_texts_have_no_form_fault.Goals as goal

pub returns : goal.returns
returns c = no_form_fault (record {
  scripts = c.printed_text_is_itself.ensures;
  transactions = c.transactions_are_read_as_written.ensures.only;
  openings = c.openings_are_read_as_written.ensures.only;
  heads = c.heads_are_read_as_written.ensures.only;
  joints = c.joints_are_read_as_written.ensures.only;
})
