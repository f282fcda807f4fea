use Rattle.ent_sql_laws.proofs.Shapes.{both}
use Rattle.ent_sql_laws.proofs.SpelledScripts.{statement_spelled, ended_spelled, within_spelled, ending_spelled}
use Rattle.ent_sql_laws.proofs.SpelledScripts.{script_spelled, input_spelled}
use Rattle.ent_sql_laws.proofs.spelling.inputs_are_spelled.Goals as goal

pub returns : goal.returns
returns c = record {
  statement = both statement_spelled;
  ended = both ended_spelled;
  within = both within_spelled;
  ending = both ending_spelled;
  script = both script_spelled;
  input = both input_spelled;
}
