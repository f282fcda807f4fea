use Rattle.ent_sql_laws.proofs.Shapes.{both}
use Rattle.ent_sql_laws.proofs.SpelledSelects.{delete_spelled, assignment_spelled, update_spelled, set_spelled}
use Rattle.ent_sql_laws.proofs.spelling.changes_are_spelled.Goals as goal

pub returns : goal.returns
returns c = record {
  delete = both delete_spelled;
  assignment = both assignment_spelled;
  update = both update_spelled;
  set = both set_spelled;
}
