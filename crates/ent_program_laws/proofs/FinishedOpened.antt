-- An opening that is read is such as a report can show.
use Rattle.std.proofs.Common.{◌≡◌, ◌≤◌, ℕ, List, [], ◌∷◌, length, arith, Ok}
use Rattle.std.specs.List.{AllByRecursion}
use Rattle.ent_tree.specs.declared.declaration.Column.{Column}
use Rattle.ent_tree.specs.declared.declaration.Create.{Create}
use Rattle.ent_tree.specs.declared.declaration.Opening.{Opening}
use Rattle.ent_tree.specs.declared.declaration.OpeningRow.{OpeningRow}
use Rattle.ent_tree.specs.declared.limits.TheConstants.{MOST_OPENING_ROWS, MOST_PARTS, MOST_TABLES}
use Rattle.ent_tree.specs.declared.operand.Literal.{Literal}
use Rattle.ent_tree.specs.declared.script.Input.{Input}
use Rattle.ent_text.specs.declared.divider.Divider.TheVariants.{Comma}
use Rattle.ent_sql.specs.Operands.{literal}
use Rattle.ent_sql.specs.Reading.{reading}
use Rattle.ent_sql.specs.Scripts as scripts
use Rattle.ent_sql.specs.Tables as grammar
use Rattle.ent_print.specs.Reading.{CanBeRead}
use Rattle.ent_print.specs.Spelling.{value_spelling}
use Rattle.ent_semantics.specs.Database.{row_of}
use Rattle.ent_history.specs.Parts.{IsName, IsValue}
use Rattle.ent_sql_laws.specs.Fits.{Each, HasParts}
use Rattle.ent_sql_laws.proofs.Keeping.{Keeps, keep_behind, keep_give, keep_listed, keep_many, keep_then}
use Rattle.ent_sql_laws.proofs.KeptOperands.{keep_identifier, keep_literal}
use Rattle.ent_sql_laws.proofs.KeptScripts.{ReadingIsSaid, TokensAreFound, tokens_stand}
use Rattle.ent_lists.specs.Elements.{all_map}
use Rattle.ent_program_laws.proofs.Read.{literal_is_value}
use Rattle.ent_report_laws.specs.Read.{IsOpeningRead, IsTableRead}

-- ---- what is read

abbrev IsColumn : Column → Type 0
IsColumn column = IsName column.name.name

record IsTable (create : Create) : Type 0 where
  name : IsName create.name.name
  columns : Each IsColumn create.columns
  parts : HasParts create.columns MOST_PARTS

abbrev IsLiteral : Literal → Type 0
IsLiteral one = CanBeRead (value_spelling one.value)

abbrev IsOpened : OpeningRow → Type 0
IsOpened row = Each IsLiteral row.values

record IsKept (opening : Opening) : Type 0 where
  tables : Each IsTable opening.tables
  few_tables : length opening.tables ≤ MOST_TABLES
  rows : Each IsOpened opening.rows
  few_rows : length opening.rows ≤ MOST_OPENING_ROWS

keep_column : Keeps grammar.column IsColumn
unfolding grammar.column
keep_column = keep_then keep_identifier (λ n h. keep_behind (λ kind. keep_give h))

keep_create : Keeps grammar.create IsTable
unfolding grammar.create
keep_create =
    keep_behind (λ place. keep_behind (λ place. keep_then keep_identifier
    (λ n h. keep_behind (λ place. keep_then (keep_listed MOST_PARTS Comma (omega arith) keep_column)
    (λ columns k. keep_behind (λ place. keep_behind (λ place.
    keep_give (record { name = h; columns = k.0; parts = k.1 }))))))))

keep_row : Keeps (grammar.row literal) (λ row. Each IsLiteral row.2)
unfolding grammar.row
keep_row =
    keep_behind (λ place. keep_behind (λ place. keep_behind (λ table. keep_behind (λ place. keep_behind (λ place.
    keep_then (keep_listed MOST_PARTS Comma (omega arith) keep_literal)
    (λ parts k. keep_behind (λ place. keep_give k.0)))))))

keep_opening_row : Keeps grammar.opening_row IsOpened
unfolding grammar.opening_row
keep_opening_row = keep_then keep_row (λ row h. keep_behind (λ place. keep_give h))

keep_input : Keeps scripts.input (λ input. IsKept input.opening)
unfolding scripts.input
keep_input =
    keep_then (keep_many MOST_TABLES keep_create) (λ tables h. keep_then (keep_many MOST_OPENING_ROWS keep_opening_row)
    (λ rows k. keep_behind (λ others.
    keep_give (record { tables = h.0; few_tables = h.1; rows = k.0; few_rows = k.1 }))))

-- ---- as it is asked for

each_is : {A : Type 0} (holds so : A → Type 0) → ((x : A) → holds x → so x) → (xs : List A) → Each holds xs
    → AllByRecursion so xs
each_is holds so to [] each = tt
each_is holds so to (x ∷ xs) each = (to x each.0, each_is holds so to xs each.1)

table_read : (create : Create) → IsTable create → IsTableRead create
table_read create is = record {
  name = is.name;
  some = is.parts.0;
  few = is.parts.1;
  columns = each_is IsColumn IsColumn (λ column h. h) create.columns is.columns;
}

row_read : (row : OpeningRow) → IsOpened row → AllByRecursion IsValue (row_of row)
row_read row is = all_map (λ (one : Literal). one.value) IsValue row.values
    (each_is IsLiteral (λ one. IsValue one.value) (λ one. literal_is_value one.value) row.values is)

pub opening_read : ReadingIsSaid → TokensAreFound → (text : List ℕ) (input : Input) → reading text ≡ Ok input
    → IsOpeningRead input.opening
opening_read says found text input is =
    let said = (says text input).0 is in
    let are = (found text said.tokens).0 said.are_tokens in
    let kept = keep_input.keeps input said.tokens (tokens_stand 0 text said.tokens (length text) [] are) said.spelled in
    record {
      few_tables = kept.few_tables;
      few_rows = kept.few_rows;
      tables = each_is IsTable IsTableRead table_read input.opening.tables kept.tables;
      values = each_is IsOpened (λ row. AllByRecursion IsValue (row_of row)) row_read input.opening.rows kept.rows;
    }
