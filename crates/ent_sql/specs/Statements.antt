-- The grammar of statements.
use Rattle.ent_text.specs.declared.keyword.Keyword.TheVariants as words
use Rattle.ent_text.specs.declared.symbol.Symbol.TheVariants as signs
use Rattle.ent_tree.specs.declared.limits.TheConstants.{MOST_PARTS}
use Rattle.ent_tree.specs.declared.statement.Delete.{Delete}
use Rattle.ent_tree.specs.declared.statement.Assignment.{Assignment}
use Rattle.ent_tree.specs.declared.statement.Update.{Update}
use Rattle.ent_tree.specs.declared.statement.Set.{Set}
use Rattle.ent_tree.specs.declared.script.Statement.{Statement}
use Rattle.ent_tree.specs.declared.script.Statement.TheVariants as statements
use Rattle.ent_text.specs.declared.divider.Divider.TheVariants.{Comma}
use Rattle.ent_text.specs.Grammar.{Grammar, give, pick, listed}
use Rattle.ent_sql.specs.Notation.{◌>>=◌, keyword, symbol}
use Rattle.ent_sql.specs.Operands.{identifier, host_variable, value, operand, expression}
use Rattle.ent_sql.specs.Tables.{insert}
use Rattle.ent_sql.specs.Selects.{tests}
use Rattle.ent_sql.specs.Entangling.{query}

-- DELETE FROM name [ WHERE tests ]
unfoldable pub delete : Grammar Delete
delete = do
  _ ← keyword words.Delete
  _ ← keyword words.From
  table ← identifier
  conditions ← tests
  give (record { table = table; tests = conditions })

-- name "=" expression
unfoldable pub assignment : Grammar Assignment
assignment = do
  column ← identifier
  _ ← symbol signs.Equal
  e ← expression operand
  give (record { column = column; expression = e })

-- UPDATE name SET assignment { "," assignment } [ WHERE tests ]
unfoldable pub update : Grammar Update
update = do
  _ ← keyword words.Update
  table ← identifier
  _ ← keyword words.Set
  assignments ← listed MOST_PARTS Comma assignment
  conditions ← tests
  give (record { table = table; assignments = assignments; tests = conditions })

-- SET hostvariable "=" expression
unfoldable pub set : Grammar Set
set = do
  _ ← keyword words.Set
  v ← host_variable
  _ ← symbol signs.Equal
  e ← expression value
  give (record { variable = v; expression = e })

-- insert | delete | update | set | select | entangled
unfoldable pub statement : Grammar Statement
statement = pick (insert >>= λ s. give (statements.Insert s))
    (pick (delete >>= λ s. give (statements.Delete s))
    (pick (update >>= λ s. give (statements.Update s))
    (pick (set >>= λ s. give (statements.Set s)) query)))

-- statement ";"
unfoldable pub ended_statement : Grammar Statement
ended_statement = do
  s ← statement
  _ ← symbol signs.Semicolon
  give s
