-- What declarations of tables, opening rows and INSERT are.
use Rattle.std.specs.Prelude.{ℕ, List}
use Rattle.ent_text.specs.declared.keyword.Keyword.TheVariants as words
use Rattle.ent_text.specs.declared.symbol.Symbol.TheVariants as signs
use Rattle.ent_text.specs.declared.token.TokenKind.TheVariants as kinds
use Rattle.ent_value.specs.declared.value.Kind.{Kind}
use Rattle.ent_value.specs.declared.value.Kind.TheVariants as sorts
use Rattle.ent_tree.specs.declared.limits.TheConstants.{MOST_PARTS}
use Rattle.ent_tree.specs.declared.operand.Identifier.{Identifier}
use Rattle.ent_tree.specs.declared.declaration.Column.{Column}
use Rattle.ent_tree.specs.declared.declaration.Create.{Create}
use Rattle.ent_tree.specs.declared.declaration.OpeningRow.{OpeningRow}
use Rattle.ent_tree.specs.declared.statement.Insert.{Insert}
use Rattle.ent_text.specs.declared.divider.Divider.TheVariants.{Comma}
use Rattle.ent_text.specs.Phrase.{Phrase, ◌⨾◌}
use Rattle.ent_sql_laws.specs.Phrases.{Standing, word, sign, listed}
use Rattle.ent_sql_laws.specs.Operands.{identifier, literal, value}

-- INT or TEXT
abbrev pub kind : Kind → Phrase
kind sorts.Int = word words.Int
kind sorts.Text = word words.Text

-- name kind
abbrev pub column : Column → Phrase
column c = identifier c.name ⨾ kind c.kind

-- CREATE TABLE name "(" column { "," column } ")" ";"
abbrev pub create : Create → Phrase
create c = word words.Create ⨾ word words.Table ⨾ identifier c.name ⨾ sign signs.Open
    ⨾ listed MOST_PARTS Comma column c.columns ⨾ sign signs.Close ⨾ sign signs.Semicolon

-- INSERT INTO name VALUES "(" part { "," part } ")", where the first bracket stands at this place
abbrev pub row : {A : Type 0} → (A → Phrase) → Identifier → ℕ → List A → Phrase
row part table place parts = word words.Insert ⨾ word words.Into ⨾ identifier table ⨾ word words.Values
    ⨾ Standing place (kinds.Sign signs.Open) ⨾ listed MOST_PARTS Comma part parts ⨾ sign signs.Close

-- INSERT INTO name VALUES "(" literal { "," literal } ")" ";"
abbrev pub opening_row : OpeningRow → Phrase
opening_row r = row literal r.table r.place r.values ⨾ sign signs.Semicolon

-- INSERT INTO name VALUES "(" value { "," value } ")"
abbrev pub insert : Insert → Phrase
insert i = row value i.table i.place i.values
