use Rattle.ent_form.proofs.Variables.{variables_written}
use Rattle.ent_form.proofs.Whole.{kinds_counted}
use Rattle.ent_form.proofs.entangled_law.variables_are_the_written_ones.Goals as goal

pub returns-clause-names : goal.returns-clause-names
returns-clause-names c = variables_written

pub returns-clause-kinds : goal.returns-clause-kinds
returns-clause-kinds c = kinds_counted
