use Rattle.ent_sql_laws.proofs.Shapes.{both}
use Rattle.ent_sql_laws.proofs.SpelledSelects.{source_spelled, tests_spelled, items_spelled, select_spelled}
use Rattle.ent_sql_laws.proofs.spelling.selects_are_spelled.Goals as goal

pub returns : goal.returns
returns c = record {
  source = both source_spelled;
  tests = both tests_spelled;
  items = both items_spelled;
  select = both select_spelled;
}
