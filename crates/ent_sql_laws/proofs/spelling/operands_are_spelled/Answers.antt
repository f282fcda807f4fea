use Rattle.ent_sql_laws.proofs.Shapes.{both}
use Rattle.ent_sql_laws.proofs.SpelledOperands.{identifier_spelled, host_variable_spelled, literal_spelled}
use Rattle.ent_sql_laws.proofs.SpelledOperands.{value_spelled}
use Rattle.ent_sql_laws.proofs.SpelledOperands.{column_reference_spelled, operand_spelled, term_spelled}
use Rattle.ent_sql_laws.proofs.SpelledOperands.{comparison_spelled}
use Rattle.ent_sql_laws.proofs.SpelledOperands.{compared_spelled, expression_spelled}
use Rattle.ent_sql_laws.proofs.spelling.operands_are_spelled.Goals as goal

pub returns : goal.returns
returns c = record {
  identifier = both identifier_spelled;
  host_variable = both host_variable_spelled;
  literal = both literal_spelled;
  value = both value_spelled;
  column = both column_reference_spelled;
  operand = both operand_spelled;
  term = both term_spelled;
  comparison = both comparison_spelled;
  operands = both (compared_spelled operand_spelled);
  terms = both (compared_spelled term_spelled);
  expression = both (expression_spelled operand_spelled);
  sum = both (expression_spelled value_spelled);
}
