use Rattle.ent_sql_laws.proofs.Shapes.{both}
use Rattle.ent_sql_laws.proofs.Tables.{kind_spelled, column_spelled, create_spelled, opening_row_spelled}
use Rattle.ent_sql_laws.proofs.Tables.{insert_spelled}
use Rattle.ent_sql_laws.proofs.spelling.tables_are_spelled.Goals as goal

pub returns : goal.returns
returns c = record {
  kind = both kind_spelled;
  column = both column_spelled;
  create = both create_spelled;
  opening_row = both opening_row_spelled;
  insert = both insert_spelled;
}
