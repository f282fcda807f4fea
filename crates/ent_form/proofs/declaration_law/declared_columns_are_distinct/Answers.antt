use Rattle.std.proofs.Common.{[]}
use Rattle.ent_form.proofs.DeclaredTables.{columns_distinct}
use Rattle.ent_form.proofs.declaration_law.declared_columns_are_distinct.Goals as goal

pub returns : goal.returns
returns c = λ creates e. columns_distinct [] creates e
