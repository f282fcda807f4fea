-- The grammar of scripts and of whole inputs.
use Rattle.std.specs.Prelude.{ℕ}
use Rattle.ent_text.specs.declared.keyword.Keyword.TheVariants as words
use Rattle.ent_text.specs.declared.symbol.Symbol.TheVariants as signs
use Rattle.ent_tree.specs.declared.limits.TheConstants.{MOST_TABLES, MOST_OPENING_ROWS, MOST_SCRIPTS}
use Rattle.ent_tree.specs.declared.limits.TheConstants.{MOST_STATEMENTS, MOST_RUNS, DEFAULT_RUNS}
use Rattle.ent_tree.specs.declared.script.End.{End}
use Rattle.ent_tree.specs.declared.script.End.TheVariants as ends
use Rattle.ent_tree.specs.declared.script.Script.{Script}
use Rattle.ent_tree.specs.declared.script.Input.{Input}
use Rattle.ent_text.specs.Grammar.{Grammar, give, up_to, pick, many}
use Rattle.ent_sql.specs.Notation.{◌>>=◌, keyword, symbol}
use Rattle.ent_sql.specs.Tables.{create, opening_row}
use Rattle.ent_sql.specs.Statements.{ended_statement}

-- [ WITHIN number RUNS ]: a number from 1 on
unfoldable pub within : Grammar ℕ
within = pick
    (do
      _ ← keyword words.Within
      n ← up_to MOST_RUNS
      _ ← keyword words.Runs
      give n.0)
    (give DEFAULT_RUNS)

-- COMMIT | ROLLBACK
unfoldable pub ending : Grammar End
ending = pick (keyword words.Commit >>= λ _. give ends.Commit) (keyword words.Rollback >>= λ _. give ends.Rollback)

-- BEGIN TRANSACTION [ WITHIN number RUNS ] ";" { statement ";" } ( COMMIT | ROLLBACK ) ";"
unfoldable pub script : Grammar Script
script = do
  _ ← keyword words.Begin
  _ ← keyword words.Transaction
  runs ← within
  _ ← symbol signs.Semicolon
  statements ← many MOST_STATEMENTS ended_statement
  ended ← ending
  _ ← symbol signs.Semicolon
  give (record { within = runs; statements = statements; end = ended })

-- { create } { opening row } { script }
unfoldable pub input : Grammar Input
input = do
  tables ← many MOST_TABLES create
  rows ← many MOST_OPENING_ROWS opening_row
  scripts ← many MOST_SCRIPTS script
  give (record { opening = record { tables = tables; rows = rows }; scripts = scripts })
