use Rattle.ent_program_laws.proofs.Verdicts.{one_verdict}
use Rattle.ent_program_laws.proofs.unambiguous_law.texts_have_one_verdict.Goals as goal

pub returns : goal.returns
returns c = one_verdict (record {
  told_once = c.texts_tell_of_one_history.ensures;
  is_report = c.told_texts_of_characters_are_reports.ensures;
  stands_once = c.things_stand_at_one_line.ensures;
  stops_once = c.texts_stop_at_one_line.ensures;
})
