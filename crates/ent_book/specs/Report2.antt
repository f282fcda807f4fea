-- The text of a report, version 2: with the opening, the scripts and the groundings, so that it can be checked alone.
use Rattle.std.specs.Prelude.{ℕ, ◌+◌, ◌==◌, List, [], ◌∷◌, ◌++◌, Option, Some, None, codes, if◌then◌else◌}
use Rattle.std.specs.List.{count_by, flat_map}
use Rattle.std.specs.Fmt.{decimal}
use Rattle.ent_lists.specs.Sets as set
use Rattle.ent_value.specs.Print.{value_text}
use Rattle.ent_value.specs.declared.value.Kind.{Kind}
use Rattle.ent_value.specs.declared.value.Kind.TheVariants as kinds
use Rattle.ent_value.specs.declared.value.Value.{Value}
use Rattle.ent_tree.specs.declared.declaration.Column.{Column}
use Rattle.ent_tree.specs.declared.declaration.Create.{Create}
use Rattle.ent_tree.specs.declared.declaration.Opening.{Opening}
use Rattle.ent_tree.specs.declared.script.Script.{Script}
use Rattle.ent_tree.specs.declared.script.Statement.{Statement}
use Rattle.ent_tree.specs.declared.script.Statement.TheVariants as statements
use Rattle.ent_print.specs.Printing.{script_text}
use Rattle.ent_semantics.specs.declared.book.Book.{Book}
use Rattle.ent_semantics.specs.declared.book.JointAnswer.{JointAnswer}
use Rattle.ent_semantics.specs.declared.book.Member.{Member}
use Rattle.ent_semantics.specs.Database.{Name, Rows, Database, opening_database, same_name}
use Rattle.ent_semantics.specs.Entangled.{written_variables}
use Rattle.ent_semantics.specs.Serial.{numbered}
use Rattle.ent_book.specs.Report.{line, rows_text, transactions_text, member_place, joint_line, names_by_bytes}
use Rattle.ent_book.specs.Report.{tables_text}

-- ---- the opening

abbrev pub kind_text : Kind → List ℕ
kind_text kinds.Int = codes "INT"
kind_text kinds.Text = codes "TEXT"

-- a column: its name and its kind
abbrev pub column_text : Column → List ℕ
column_text column = column.name.name ++ (codes " " ++ kind_text column.kind)

-- columns, each behind a comma and a space
abbrev pub more_columns_text : List Column → List ℕ
more_columns_text columns = flat_map (λ column. codes ", " ++ column_text column) columns

abbrev pub columns_text : List Column → List ℕ
columns_text [] = []
columns_text (column ∷ more) = column_text column ++ more_columns_text more

-- the columns of the table that is declared under a name
abbrev pub declared_columns : List Create → Name → List Column
declared_columns [] name = []
declared_columns (create ∷ more) name =
    if same_name create.name.name name then create.columns else declared_columns more name

-- a name, columns, and how many rows there are
abbrev pub opening_line : Name → List Column → ℕ → List ℕ
opening_line name columns count =
    line (codes "opening " ++ (name ++ (codes " (" ++ (columns_text columns ++ (codes ") " ++ decimal count)))))

-- a table at first: its name, its columns, how many rows it has, and these, ascending
abbrev pub opening_table_text : Name → List Column → Rows → List ℕ
opening_table_text name columns rows =
    opening_line name columns (set.len rows) ++ rows_text (set.ascending rows)

-- tables at first, in the order of these names
abbrev pub opening_text : Opening → List Name → List ℕ
opening_text opening names =
    flat_map
    (λ name. opening_table_text name (declared_columns opening.tables name) (opening_database opening name))
    names

-- ---- the scripts

-- how many lines are ended in a text
abbrev pub line_count : List ℕ → ℕ
line_count text = count_by (λ code. code == 10) text

-- a script: its number, how many lines it has, and these
unfoldable pub numbered_script_text : ℕ → Script → List ℕ
numbered_script_text number script =
    line (codes "script " ++ (decimal number ++ (codes " " ++ decimal (line_count (script_text script)))))
    ++ script_text script

-- scripts in order of their numbers, from a number on
abbrev pub scripts_text : ℕ → List Script → List ℕ
scripts_text number [] = []
scripts_text number (script ∷ more) = numbered_script_text number script ++ scripts_text (number + 1) more

-- ---- the groundings

-- the written variables of a statement, where it is entangled
abbrev pub statement_variables : Option Statement → List Name
statement_variables (Some (statements.Entangled entangled)) = written_variables entangled
statement_variables other = []

abbrev pub script_statement : ℕ → Option Script → Option Statement
script_statement place None = None
script_statement place (Some script) = numbered script.statements place

-- the written variables of a member's statement
abbrev pub member_variables : List Script → Member → List Name
member_variables scripts member =
    statement_variables (script_statement member.place (numbered scripts member.tx))

-- a variable and its value, behind a space
abbrev pub binding_text : Name → Value → List ℕ
binding_text name value = codes " " ++ (name ++ (codes "=" ++ value_text value))

-- variables and their values
abbrev pub bindings_text : List Name → List Value → List ℕ
bindings_text [] values = []
bindings_text (name ∷ names) [] = []
bindings_text (name ∷ names) (value ∷ values) =
    binding_text name value ++ bindings_text names values

-- a member, and the value of each of its written variables, in order of their first appearance
abbrev pub grounding_line : List Script → Member → List ℕ
grounding_line scripts member =
    line (member_place member ++ bindings_text (member_variables scripts member) member.grounding)

abbrev pub groundings_text : List Script → List Member → List ℕ
groundings_text scripts members = flat_map (grounding_line scripts) members

-- joint answers in the order made, from a number on, each followed by the groundings of its members
abbrev pub grounded_joints_text : List Script → ℕ → List JointAnswer → List ℕ
grounded_joints_text scripts number [] = []
grounded_joints_text scripts number (joint ∷ more) =
    (joint_line number joint ++ groundings_text scripts joint.members)
    ++ grounded_joints_text scripts (number + 1) more

-- ---- the whole

abbrev pub report_2_text : Book Database → List ℕ
report_2_text book =
    line (codes "report 2")
    ++ (opening_text book.opening (names_by_bytes book.opening)
    ++ (scripts_text 1 book.scripts
    ++ (transactions_text book.journal book.fates
    ++ (grounded_joints_text book.scripts 1 book.joint_answers
    ++ (tables_text (names_by_bytes book.opening) book.database
    ++ line (codes "end"))))))
