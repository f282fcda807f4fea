-- What statements, scripts and whole inputs are.
use Rattle.std.specs.Prelude.{◌≡◌, ℕ, ◌≤◌, ◌⊎◌}
use Rattle.ent_text.specs.declared.keyword.Keyword.TheVariants as words
use Rattle.ent_text.specs.declared.symbol.Symbol.TheVariants as signs
use Rattle.ent_text.specs.declared.token.TokenKind.TheVariants as kinds
use Rattle.ent_tree.specs.declared.limits.TheConstants.{MOST_TABLES, MOST_OPENING_ROWS, MOST_SCRIPTS}
use Rattle.ent_tree.specs.declared.limits.TheConstants.{MOST_STATEMENTS, MOST_RUNS, DEFAULT_RUNS}
use Rattle.ent_tree.specs.declared.script.Statement.{Statement}
use Rattle.ent_tree.specs.declared.script.Statement.TheVariants as statements
use Rattle.ent_tree.specs.declared.script.End.{End}
use Rattle.ent_tree.specs.declared.script.End.TheVariants as ends
use Rattle.ent_tree.specs.declared.script.Script.{Script}
use Rattle.ent_tree.specs.declared.script.Input.{Input}
use Rattle.ent_text.specs.Phrase.{Phrase, ◌⨾◌, nothing}
use Rattle.ent_sql_laws.specs.Phrases.{single, word, sign, many}
use Rattle.ent_sql_laws.specs.Tables.{create, opening_row, insert}
use Rattle.ent_sql_laws.specs.Selects.{select}
use Rattle.ent_sql_laws.specs.Changes.{delete, update, set}
use Rattle.ent_sql_laws.specs.Entangling.{entangled}

-- select or entangled select
abbrev pub query : Statement → Phrase
query (statements.Select s) = select s
query (statements.Entangled e) = entangled e
query _ = λ tokens. ⊥

-- insert, delete, update, set, select or entangled select
abbrev pub statement : Statement → Phrase
statement (statements.Insert i) = insert i
statement (statements.Delete d) = delete d
statement (statements.Update u) = update u
statement (statements.Set s) = set s
statement (statements.Select s) = select s
statement (statements.Entangled e) = entangled e

-- statement ";"
abbrev pub ended_statement : Statement → Phrase
ended_statement s = statement s ⨾ sign signs.Semicolon

-- WITHIN number RUNS: a number from 1 on, up to the most runs
abbrev pub said_runs : ℕ → Phrase
said_runs n tokens = (1 ≤ n) × (n ≤ MOST_RUNS)
    × (word words.Within ⨾ single (kinds.Number n) ⨾ word words.Runs) tokens

-- [ WITHIN number RUNS ]
abbrev pub within : ℕ → Phrase
within n tokens = said_runs n tokens ⊎ ((n ≡ DEFAULT_RUNS) × nothing tokens)

-- COMMIT or ROLLBACK
abbrev pub ending : End → Phrase
ending ends.Commit = word words.Commit
ending ends.Rollback = word words.Rollback

-- BEGIN TRANSACTION [ WITHIN number RUNS ] ";" { statement ";" } ( COMMIT | ROLLBACK ) ";"
abbrev pub script : Script → Phrase
script s = word words.Begin ⨾ word words.Transaction ⨾ within s.within ⨾ sign signs.Semicolon
    ⨾ many MOST_STATEMENTS ended_statement s.statements ⨾ ending s.end ⨾ sign signs.Semicolon

-- { create } { opening row } { script }
abbrev pub input : Input → Phrase
input i = many MOST_TABLES create i.opening.tables ⨾ many MOST_OPENING_ROWS opening_row i.opening.rows
    ⨾ many MOST_SCRIPTS script i.scripts
