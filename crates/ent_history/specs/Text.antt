-- The text of a history, as a report of version 2 writes it.
use Rattle.std.specs.Prelude.{ℕ, ◌+◌, List, [], ◌∷◌, ◌++◌, length, codes}
use Rattle.std.specs.List.{flat_map}
use Rattle.std.specs.Fmt.{decimal}
use Rattle.ent_tree.specs.declared.declaration.Create.{Create}
use Rattle.ent_tree.specs.declared.declaration.Opening.{Opening}
use Rattle.ent_semantics.specs.Database.{rows_named}
use Rattle.ent_book.specs.Report.{line, rows_text, fate_text, answers_text, member_place, member_text}
use Rattle.ent_book.specs.Report2.{opening_line, scripts_text, bindings_text}
use Rattle.ent_history.specs.declared.history.History.{History}
use Rattle.ent_history.specs.declared.history.Shown.{Shown}
use Rattle.ent_history.specs.declared.history.Told.{Told}
use Rattle.ent_history.specs.declared.history.ToldJoint.{ToldJoint}
use Rattle.ent_history.specs.declared.history.ToldMember.{ToldMember}

-- a table at first: its name, its columns, how many rows it has, and these
abbrev pub opened_text : Opening → Create → List ℕ
opened_text opening create =
    opening_line create.name.name create.columns (length (rows_named opening create.name.name))
    ++ rows_text (rows_named opening create.name.name)

-- the tables at first, in the order in which they stand
abbrev pub opening_text : Opening → List ℕ
opening_text opening = flat_map (opened_text opening) opening.tables

-- a transaction: its number and its fate
abbrev pub tx_text : ℕ → Told → List ℕ
tx_text number told = line (codes "tx " ++ (decimal number ++ (codes " " ++ fate_text told.fate)))

-- a transaction, and the answers under it
abbrev pub told_text : ℕ → Told → List ℕ
told_text number told = tx_text number told ++ answers_text 1 told.answers

-- transactions, from a number on
abbrev pub transactions_text : ℕ → List Told → List ℕ
transactions_text number [] = []
transactions_text number (told ∷ more) = told_text number told ++ transactions_text (number + 1) more

-- a joint answer: its number, and the places of its members
abbrev pub joint_text : ℕ → ToldJoint → List ℕ
joint_text number joint =
    line (codes "joint " ++ (decimal number ++ flat_map (λ told. member_text told.member) joint.members))

-- a member: its place, and the values of its variables
abbrev pub told_member_text : ToldMember → List ℕ
told_member_text told = line (member_place told.member ++ bindings_text told.variables told.member.grounding)

-- joint answers, from a number on, each followed by its members
abbrev pub joints_text : ℕ → List ToldJoint → List ℕ
joints_text number [] = []
joints_text number (joint ∷ more) =
    (joint_text number joint ++ flat_map told_member_text joint.members) ++ joints_text (number + 1) more

-- a table at the end: its name, how many rows it has, and these
abbrev pub shown_text : Shown → List ℕ
shown_text shown =
    line (codes "table " ++ (shown.name ++ (codes " " ++ decimal (length shown.rows)))) ++ rows_text shown.rows

abbrev pub history_text : History → List ℕ
history_text history =
    line (codes "report 2")
    ++ (opening_text history.opening
    ++ (scripts_text 1 history.scripts
    ++ (transactions_text 1 history.transactions
    ++ (joints_text 1 history.joint_answers
    ++ (flat_map shown_text history.tables
    ++ line (codes "end"))))))
