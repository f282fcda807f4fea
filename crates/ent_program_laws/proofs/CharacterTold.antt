-- The text of a history of whole characters.
use Rattle.std.proofs.Common.{◌≡◌, ℕ, ◌+◌, true, false, Bool, List, [], ◌∷◌, ◌++◌, length, refl, subst, sym}
use Rattle.std.specs.Prelude.{codes}
use Rattle.std.specs.List.{AllByRecursion, filter, flat_map}
use Rattle.std.specs.Fmt.{decimal}
use Rattle.std.specs.Str.{IsUtf8}
use Rattle.std.proofs.lemmas.Str.{IsUtf8-nil}
use Rattle.ent_value.specs.Print.{value_text}
use Rattle.ent_value.specs.declared.value.Kind.{Kind}
use Rattle.ent_value.specs.declared.value.Kind.TheVariants as kinds
use Rattle.ent_value.specs.declared.value.Value.{Value}
use Rattle.ent_tree.specs.declared.declaration.Column.{Column}
use Rattle.ent_tree.specs.declared.declaration.Create.{Create}
use Rattle.ent_tree.specs.declared.declaration.Opening.{Opening}
use Rattle.ent_tree.specs.declared.declaration.OpeningRow.{OpeningRow}
use Rattle.ent_tree.specs.declared.script.Script.{Script}
use Rattle.ent_semantics.specs.declared.book.Member.{Member}
use Rattle.ent_book.specs.Report.{answers_text, fate_text, line, member_place, member_text, rows_text}
use Rattle.ent_book.specs.Report2.{binding_text, bindings_text, column_text, columns_text, kind_text}
use Rattle.ent_book.specs.Report2.{more_columns_text, opening_line, scripts_text}
use Rattle.ent_history.specs.declared.history.History.{History}
use Rattle.ent_history.specs.declared.history.Shown.{Shown}
use Rattle.ent_history.specs.declared.history.Told.{Told}
use Rattle.ent_history.specs.declared.history.ToldJoint.{ToldJoint}
use Rattle.ent_history.specs.declared.history.ToldMember.{ToldMember}
use Rattle.ent_history.specs.Text.{shown_text, told_member_text, told_text, transactions_text, tx_text}
use Rattle.ent_history.specs.Told.{has_committed}
use Rattle.ent_history.specs.Opening.{IsDeclaration}
use Rattle.ent_history.specs.Parts.{IsName}
use Rattle.ent_history.specs.Scripts.{IsScript}
use Rattle.ent_report_laws.specs.Tellable.{AreTablesOf, AreTransactionsOf, CanBeTold, IsJointTold, IsMemberTold}
use Rattle.ent_report_laws.specs.Tellable.{IsTransactionTold}
use Rattle.ent_lists.specs.Elements.{all_filtered, all_map}
use Rattle.ent_semantics.specs.Database.{Name, row_of, same_name, rows_named}
use Rattle.ent_history.specs.Text.{history_text, joint_text, joints_text, opened_text, opening_text}
use Rattle.ent_program_laws.specs.Characters.{HoldsCharacters, IsAnswerOfCharacters, IsOpeningOfCharacters}
use Rattle.ent_program_laws.specs.Characters.{IsRowOfCharacters}
use Rattle.ent_program_laws.proofs.Answers.{answers_are_text, fate_is_text}
use Rattle.ent_program_laws.proofs.Names.{name_text}
use Rattle.ent_program_laws.proofs.Printed.{scripts_are_text}
use Rattle.ent_program_laws.proofs.Texts.{joined, number_text, of_ascii}
use Rattle.ent_program_laws.proofs.CharacterValues.{line_is_text, rows_are_text, value_is_text}
use Rattle.ent_program_laws.proofs.Variables.{variables_are_names}

-- ---- the opening

kind_is_text : (kind : Kind) → IsUtf8 (kind_text kind)
kind_is_text kinds.Int = of_ascii (codes "INT") refl
kind_is_text kinds.Text = of_ascii (codes "TEXT") refl

abbrev IsNamed : Column → Type 0
IsNamed column = IsName column.name.name × (column.name.place ≡ 0)

column_is_text : (column : Column) → IsNamed column → IsUtf8 (column_text column)
column_is_text column is =
    joined column.name.name (codes " " ++ kind_text column.kind) (name_text column.name.name is.0)
    (joined (codes " ") (kind_text column.kind) (of_ascii (codes " ") refl) (kind_is_text column.kind))

more_columns_are_text : (columns : List Column) → AllByRecursion IsNamed columns → IsUtf8 (more_columns_text columns)
more_columns_are_text [] each = IsUtf8-nil
more_columns_are_text (column ∷ columns) each =
    joined (codes ", " ++ column_text column) (more_columns_text columns)
    (joined (codes ", ") (column_text column) (of_ascii (codes ", ") refl) (column_is_text column each.0))
    (more_columns_are_text columns each.1)

columns_are_text : (columns : List Column) → AllByRecursion IsNamed columns → IsUtf8 (columns_text columns)
columns_are_text [] each = IsUtf8-nil
columns_are_text (column ∷ columns) each =
    joined (column_text column) (more_columns_text columns) (column_is_text column each.0)
    (more_columns_are_text columns each.1)

heading_is_text : (create : Create) (count : ℕ) → IsDeclaration create
    → IsUtf8 (opening_line create.name.name create.columns count)
heading_is_text create count is =
    let behind = codes ") " ++ decimal count in
    let listed = codes " (" ++ (columns_text create.columns ++ behind) in
    line_is_text (codes "opening " ++ (create.name.name ++ listed))
    (joined (codes "opening ") (create.name.name ++ listed) (of_ascii (codes "opening ") refl)
    (joined create.name.name listed (name_text create.name.name is.name)
    (joined (codes " (") (columns_text create.columns ++ behind) (of_ascii (codes " (") refl)
    (joined (columns_text create.columns) behind (columns_are_text create.columns is.columns)
    (joined (codes ") ") (decimal count) (of_ascii (codes ") ") refl) (number_text count))))))

abbrev IsOpened : OpeningRow → Type 0
IsOpened row = IsRowOfCharacters (row_of row)

found_rows : (opening : Opening) (name : Name) → IsOpeningOfCharacters opening
    → AllByRecursion IsRowOfCharacters (rows_named opening name)
found_rows opening name is =
    let test = λ (row : OpeningRow). same_name row.table.name name in
    all_map row_of IsRowOfCharacters (filter test opening.rows) (all_filtered IsOpened test opening.rows is)

tables_are_text : (opening : Opening) (tables : List Create) → IsOpeningOfCharacters opening
    → AllByRecursion IsDeclaration tables → IsUtf8 (flat_map (opened_text opening) tables)
tables_are_text opening [] is each = IsUtf8-nil
tables_are_text opening (create ∷ tables) is each =
    let rows = rows_named opening create.name.name in
    joined (opened_text opening create) (flat_map (opened_text opening) tables)
    (joined (opening_line create.name.name create.columns (length rows)) (rows_text rows)
    (heading_is_text create (length rows) each.0)
    (rows_are_text rows (found_rows opening create.name.name is)))
    (tables_are_text opening tables is each.1)

-- ---- transactions

tx_is_text : (number : ℕ) (told : Told) → IsUtf8 (tx_text number told)
tx_is_text number told =
    line_is_text (codes "tx " ++ (decimal number ++ (codes " " ++ fate_text told.fate)))
    (joined (codes "tx ") (decimal number ++ (codes " " ++ fate_text told.fate)) (of_ascii (codes "tx ") refl)
    (joined (decimal number) (codes " " ++ fate_text told.fate) (number_text number)
    (joined (codes " ") (fate_text told.fate) (of_ascii (codes " ") refl) (fate_is_text told.fate))))

answers_told : (script : Script) (told : Told) (committed : Bool) → has_committed told.fate ≡ committed
    → IsTransactionTold script told → AllByRecursion IsAnswerOfCharacters told.answers
    → IsUtf8 (answers_text 1 told.answers)
answers_told script told true e is each =
    answers_are_text 1 script.statements told.answers (is.committed e) each
answers_told script told false e is each =
    subst (λ answers. IsUtf8 (answers_text 1 answers)) (sym (is.otherwise e)) IsUtf8-nil

transactions_are_text : (number : ℕ) (scripts : List Script) (told : List Told) → AreTransactionsOf scripts told
    → AllByRecursion (λ one. AllByRecursion IsAnswerOfCharacters one.answers) told
    → IsUtf8 (transactions_text number told)
transactions_are_text number scripts [] are each = IsUtf8-nil
transactions_are_text number [] (told ∷ more) are each = absurd are
transactions_are_text number (script ∷ scripts) (told ∷ more) are each =
    joined (told_text number told) (transactions_text (number + 1) more)
    (joined (tx_text number told) (answers_text 1 told.answers) (tx_is_text number told)
    (answers_told script told (has_committed told.fate) refl are.0 each.0))
    (transactions_are_text (number + 1) scripts more are.1 each.1)

-- ---- joint answers

place_is_text : (member : Member) → IsUtf8 (member_place member)
place_is_text member =
    joined (decimal member.tx) (codes "." ++ decimal member.place) (number_text member.tx)
    (joined (codes ".") (decimal member.place) (of_ascii (codes ".") refl) (number_text member.place))

members_are_text : (members : List ToldMember) → IsUtf8 (flat_map (λ told. member_text told.member) members)
members_are_text [] = IsUtf8-nil
members_are_text (told ∷ members) =
    joined (member_text told.member) (flat_map (λ one. member_text one.member) members)
    (joined (codes " ") (member_place told.member) (of_ascii (codes " ") refl) (place_is_text told.member))
    (members_are_text members)

joint_is_text : (number : ℕ) (joint : ToldJoint) → IsUtf8 (joint_text number joint)
joint_is_text number joint =
    let places = flat_map (λ told. member_text told.member) joint.members in
    line_is_text (codes "joint " ++ (decimal number ++ places))
    (joined (codes "joint ") (decimal number ++ places) (of_ascii (codes "joint ") refl)
    (joined (decimal number) places (number_text number) (members_are_text joint.members)))

bindings_are_text : (names : List Name) (values : List Value) → AllByRecursion IsName names → IsRowOfCharacters values
    → IsUtf8 (bindings_text names values)
bindings_are_text [] values named each = IsUtf8-nil
bindings_are_text (name ∷ names) [] named each = IsUtf8-nil
bindings_are_text (name ∷ names) (value ∷ values) named each =
    joined (binding_text name value) (bindings_text names values)
    (joined (codes " ") (name ++ (codes "=" ++ value_text value)) (of_ascii (codes " ") refl)
    (joined name (codes "=" ++ value_text value) (name_text name named.0)
    (joined (codes "=") (value_text value) (of_ascii (codes "=") refl) (value_is_text value each.0))))
    (bindings_are_text names values named.1 each.1)

groundings_are_text : (history : History) (members : List ToldMember)
    → AllByRecursion (IsScript history) history.scripts → AllByRecursion (IsMemberTold history) members
    → AllByRecursion (λ told. IsRowOfCharacters told.member.grounding) members
    → IsUtf8 (flat_map told_member_text members)
groundings_are_text history [] scripts told each = IsUtf8-nil
groundings_are_text history (member ∷ members) scripts told each =
    let bound = bindings_text member.variables member.member.grounding in
    joined (told_member_text member) (flat_map told_member_text members)
    (line_is_text (member_place member.member ++ bound)
    (joined (member_place member.member) bound (place_is_text member.member)
    (bindings_are_text member.variables member.member.grounding
    (variables_are_names history member scripts told.0) each.0)))
    (groundings_are_text history members scripts told.1 each.1)

joints_are_text : (history : History) (number : ℕ) (joints : List ToldJoint)
    → AllByRecursion (IsScript history) history.scripts → AllByRecursion (IsJointTold history) joints
    → AllByRecursion (λ joint. AllByRecursion (λ told. IsRowOfCharacters told.member.grounding) joint.members) joints
    → IsUtf8 (joints_text number joints)
joints_are_text history number [] scripts told each = IsUtf8-nil
joints_are_text history number (joint ∷ joints) scripts told each =
    let lines = flat_map told_member_text joint.members in
    joined (joint_text number joint ++ lines) (joints_text (number + 1) joints)
    (joined (joint_text number joint) lines (joint_is_text number joint)
    (groundings_are_text history joint.members scripts told.0.members each.0))
    (joints_are_text history (number + 1) joints scripts told.1 each.1)

-- ---- the tables at the end

shown_are_text : (tables : List Create) (shown : List Shown) → AllByRecursion IsDeclaration tables
    → AreTablesOf tables shown → AllByRecursion (λ one. AllByRecursion IsRowOfCharacters one.rows) shown
    → IsUtf8 (flat_map shown_text shown)
shown_are_text tables [] declared are each = IsUtf8-nil
shown_are_text [] (one ∷ shown) declared are each = absurd are
shown_are_text (create ∷ tables) (one ∷ shown) declared are each =
    let count = codes " " ++ decimal (length one.rows) in
    let heading = codes "table " ++ (one.name ++ count) in
    joined (shown_text one) (flat_map shown_text shown)
    (joined (line heading) (rows_text one.rows)
    (line_is_text heading
    (joined (codes "table ") (one.name ++ count) (of_ascii (codes "table ") refl)
    (joined one.name count (subst IsUtf8 (sym are.0) (name_text create.name.name declared.0.name))
    (joined (codes " ") (decimal (length one.rows)) (of_ascii (codes " ") refl) (number_text (length one.rows))))))
    (rows_are_text one.rows each.0))
    (shown_are_text tables shown declared.1 are.3 each.1)

-- ---- the whole

pub history_is_text : (history : History) → CanBeTold history → HoldsCharacters history → IsUtf8 (history_text history)
history_is_text history can holds =
    let end = line (codes "end") in
    let from_tables = flat_map shown_text history.tables ++ end in
    let from_joints = joints_text 1 history.joint_answers ++ from_tables in
    let from_transactions = transactions_text 1 history.transactions ++ from_joints in
    let from_scripts = scripts_text 1 history.scripts ++ from_transactions in
    joined (line (codes "report 2")) (opening_text history.opening ++ from_scripts)
    (line_is_text (codes "report 2") (of_ascii (codes "report 2") refl))
    (joined (opening_text history.opening) from_scripts
    (tables_are_text history.opening history.opening.tables holds.opening can.opening.declarations)
    (joined (scripts_text 1 history.scripts) from_transactions
    (scripts_are_text history 1 history.scripts can.scripts holds.scripts)
    (joined (transactions_text 1 history.transactions) from_joints
    (transactions_are_text 1 history.scripts history.transactions can.transactions holds.answers)
    (joined (joints_text 1 history.joint_answers) from_tables
    (joints_are_text history 1 history.joint_answers can.scripts can.joints holds.groundings)
    (joined (flat_map shown_text history.tables) end
    (shown_are_text history.opening.tables history.tables can.opening.declarations can.tables holds.tables)
    (line_is_text (codes "end") (of_ascii (codes "end") refl)))))))
