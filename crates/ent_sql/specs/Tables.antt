-- The grammar of tables, and of rows that are put in.
use Rattle.std.specs.Prelude.{ℕ, List}
use Rattle.ent_text.specs.declared.keyword.Keyword.TheVariants as words
use Rattle.ent_text.specs.declared.symbol.Symbol.TheVariants as signs
use Rattle.ent_value.specs.declared.value.Kind.{Kind}
use Rattle.ent_value.specs.declared.value.Kind.TheVariants as sorts
use Rattle.ent_tree.specs.declared.limits.TheConstants.{MOST_PARTS}
use Rattle.ent_tree.specs.declared.operand.Identifier.{Identifier}
use Rattle.ent_tree.specs.declared.declaration.Column.{Column}
use Rattle.ent_tree.specs.declared.declaration.Create.{Create}
use Rattle.ent_tree.specs.declared.declaration.OpeningRow.{OpeningRow}
use Rattle.ent_tree.specs.declared.statement.Insert.{Insert}
use Rattle.ent_text.specs.declared.divider.Divider.TheVariants.{Comma}
use Rattle.ent_text.specs.Grammar.{Grammar, give, pick, listed}
use Rattle.ent_sql.specs.Notation.{◌>>=◌, keyword, symbol}
use Rattle.ent_sql.specs.Operands.{identifier, literal, value}

-- INT | TEXT
unfoldable pub kind : Grammar Kind
kind = pick (keyword words.Int >>= λ _. give sorts.Int) (keyword words.Text >>= λ _. give sorts.Text)

-- name kind
unfoldable pub column : Grammar Column
column = do
  n ← identifier
  k ← kind
  give (record { name = n; kind = k })

-- CREATE TABLE name "(" column { "," column } ")" ";"
unfoldable pub create : Grammar Create
create = do
  _ ← keyword words.Create
  _ ← keyword words.Table
  n ← identifier
  _ ← symbol signs.Open
  columns ← listed MOST_PARTS Comma column
  _ ← symbol signs.Close
  _ ← symbol signs.Semicolon
  give (record { name = n; columns = columns })

-- INSERT INTO name VALUES "(" part { "," part } ")", with the place of the first bracket
unfoldable pub row : {A : Type 0} → Grammar A → Grammar (Identifier × ℕ × List A)
row part = do
  _ ← keyword words.Insert
  _ ← keyword words.Into
  table ← identifier
  _ ← keyword words.Values
  place ← symbol signs.Open
  parts ← listed MOST_PARTS Comma part
  _ ← symbol signs.Close
  give (table, place, parts)

-- INSERT INTO name VALUES "(" literal { "," literal } ")" ";"
unfoldable pub opening_row : Grammar OpeningRow
opening_row = do
  r ← row literal
  _ ← symbol signs.Semicolon
  give (record { table = r.0; place = r.1; values = r.2 })

-- INSERT INTO name VALUES "(" value { "," value } ")"
unfoldable pub insert : Grammar Insert
insert = do
  r ← row value
  give (record { table = r.0; place = r.1; values = r.2 })
