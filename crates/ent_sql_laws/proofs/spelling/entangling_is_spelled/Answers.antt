use Rattle.ent_sql_laws.proofs.Shapes.{both}
use Rattle.ent_sql_laws.proofs.SpelledConditions.{relation_spelled, condition_spelled}
use Rattle.ent_sql_laws.proofs.Queries.{binding_spelled, item_spelled, conditions_spelled, query_spelled}
use Rattle.ent_sql_laws.proofs.spelling.entangling_is_spelled.Goals as goal

pub returns : goal.returns
returns c = record {
  binding = both binding_spelled;
  item = both item_spelled;
  relation = both relation_spelled;
  condition = both condition_spelled;
  conditions = both conditions_spelled;
  query = both query_spelled;
}
