use Rattle.ent_program_laws.proofs.VerdictRuns.{no_report_once}
use Rattle.ent_program_laws.proofs.unambiguous_law.texts_stop_at_one_line.Goals as goal

pub returns : goal.returns
returns c = no_report_once (record {
  scripts = c.printed_text_is_itself.ensures;
  transactions = c.transactions_are_read_as_written.ensures.only;
  openings = c.openings_are_read_as_written.ensures.only;
  heads = c.heads_are_read_as_written.ensures.only;
  joints = c.joints_are_read_as_written.ensures.only;
})
