-- What one statement means: from a database and an environment to those after it and an answer, or to a failure.
use Rattle.std.specs.Prelude.{List, map}
use Rattle.ent_tree.specs.declared.declaration.Create.{Create}
use Rattle.ent_tree.specs.declared.operand.Operand.{Operand}
use Rattle.ent_tree.specs.declared.script.Statement.{Statement}
use Rattle.ent_tree.specs.declared.script.Statement.TheVariants as statements
use Rattle.ent_semantics.specs.Change.{image}
use Rattle.ent_semantics.specs.Database.{Name, Database, Environment, table_named}
use Rattle.ent_semantics.specs.Effect.{Meaning, insertion, deletion, replacement, setting, shown, heads_given}
use Rattle.ent_semantics.specs.Entangled.{Valuation, heads, bound_values}
use Rattle.ent_semantics.specs.Selection.{meets, select_rows}
use Rattle.ent_semantics.specs.Term.{Worth, table_columns, operand_value, known_value, expression_value}

-- what the operands of a statement over one table are worth over a row of it
abbrev pub table_worth : List Create → Environment → Name → Worth Operand
table_worth declared environment table = operand_value environment (table_columns declared table table)

-- An entangled statement is answered under a valuation, which others have no use for.
abbrev pub statement_meaning : List Create → Statement → Valuation → Meaning Database
statement_meaning declared (statements.Select select) valuation database environment =
    shown (select_rows declared database environment select) database environment
statement_meaning declared (statements.Entangled entangled) valuation database environment =
    heads_given (heads environment entangled valuation) (bound_values environment entangled valuation) database
    environment
statement_meaning declared (statements.Insert insert) valuation database environment =
    insertion (table_named insert.table.name) (map (known_value environment) insert.values) database environment
statement_meaning declared (statements.Delete delete) valuation database environment =
    let table = delete.table.name in
    deletion (table_named table) (meets (table_worth declared environment table) delete.tests) database environment
statement_meaning declared (statements.Update update) valuation database environment =
    let table = update.table.name in
    let worth = table_worth declared environment table in
    replacement (table_named table) (meets worth update.tests)
    (image worth update.assignments (table_columns declared table table)) database environment
statement_meaning declared (statements.Set set) valuation database environment =
    setting set.variable.name (expression_value (known_value environment) set.expression) database environment
