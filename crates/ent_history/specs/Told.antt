-- What the report of a book tells, and the book of a history.
use Rattle.std.specs.Prelude.{ℕ, ◌+◌, ◌==◌, Bool, true, false, List, [], ◌∷◌, ◌++◌, length, map, if◌then◌else◌}
use Rattle.std.specs.List.{filter, flat_map, range_with_len}
use Rattle.ent_lists.specs.Sets as set
use Rattle.ent_value.specs.declared.value.Value.{Value}
use Rattle.ent_tree.specs.declared.declaration.Create.{Create}
use Rattle.ent_tree.specs.declared.declaration.Opening.{Opening}
use Rattle.ent_tree.specs.declared.declaration.OpeningRow.{OpeningRow}
use Rattle.ent_tree.specs.declared.script.Script.{Script}
use Rattle.ent_semantics.specs.declared.book.Book.{Book}
use Rattle.ent_semantics.specs.declared.book.Entry.{Entry}
use Rattle.ent_semantics.specs.declared.book.Fate.{Fate}
use Rattle.ent_semantics.specs.declared.book.Fate.TheVariants as fates
use Rattle.ent_semantics.specs.declared.book.Fated.{Fated}
use Rattle.ent_semantics.specs.declared.book.JointAnswer.{JointAnswer}
use Rattle.ent_semantics.specs.declared.book.Member.{Member}
use Rattle.ent_semantics.specs.Database.{Name, Database, opening_database, same_name}
use Rattle.ent_book.specs.Report.{fate_answers, names_by_bytes}
use Rattle.ent_book.specs.Report2.{member_variables}
use Rattle.ent_history.specs.declared.history.History.{History}
use Rattle.ent_history.specs.declared.history.Shown.{Shown}
use Rattle.ent_history.specs.declared.history.Told.{Told}
use Rattle.ent_history.specs.declared.history.ToldJoint.{ToldJoint}
use Rattle.ent_history.specs.declared.history.ToldMember.{ToldMember}

-- ---- what the report of a book tells

-- the table that is declared under a name, where there is one
abbrev pub declared_under : List Create → Name → List Create
declared_under [] name = []
declared_under (create ∷ more) name =
    if same_name create.name.name name then create ∷ [] else declared_under more name

-- a row of a table, without places
abbrev pub opening_row : Name → List Value → OpeningRow
opening_row name values = record {
  table = record { name = name; place = 0 };
  place = 0;
  values = map (λ value. record { value = value; place = 0 }) values;
}

-- the rows of a table at first, ascending, each once
abbrev pub told_rows : Opening → Name → List OpeningRow
told_rows opening name = map (opening_row name) (set.ascending (opening_database opening name))

-- the tables by name, and behind each other the rows of each
abbrev pub told_opening : Opening → Opening
told_opening opening = record {
  tables = flat_map (declared_under opening.tables) (names_by_bytes opening);
  rows = flat_map (told_rows opening) (names_by_bytes opening);
}

-- a transaction with the answers of its entry, where it committed
abbrev pub told_fate : List Entry → Fated → Told
told_fate journal fated = record { fate = fated.fate; answers = fate_answers journal fated.fate }

abbrev pub told_member : List Script → Member → ToldMember
told_member scripts member = record { member = member; variables = member_variables scripts member }

abbrev pub told_joint : List Script → JointAnswer → ToldJoint
told_joint scripts joint = record { members = map (told_member scripts) joint.members }

abbrev pub shown_table : Database → Name → Shown
shown_table database name = record { name = name; rows = set.ascending (database name) }

abbrev pub told_by : Book Database → History
told_by book = record {
  opening = told_opening book.opening;
  scripts = book.scripts;
  transactions = map (told_fate book.journal) book.fates;
  joint_answers = map (told_joint book.scripts) book.joint_answers;
  tables = map (shown_table book.database) (names_by_bytes book.opening);
}

-- ---- the book of a history

-- the fates of transactions, from a number on
abbrev pub fates_from : ℕ → List Told → List Fated
fates_from number [] = []
fates_from number (told ∷ more) =
    record { tx = number; fate = told.fate } ∷ fates_from (number + 1) more

-- the entry of a transaction, where it is said to have committed with this number
abbrev pub entry_if : ℕ → ℕ → Told → List Entry
entry_if number tx told = of_fate told.fate
  where
    of_fate : Fate → List Entry
    of_fate (fates.Committed own runs) =
        if own == number then record { tx = tx; answers = told.answers } ∷ [] else []
    of_fate other = []

-- the entries of the transactions, from one on, that are said to have committed with this number
abbrev pub entries_of : ℕ → ℕ → List Told → List Entry
entries_of number tx [] = []
entries_of number tx (told ∷ more) = entry_if number tx told ++ entries_of number (tx + 1) more

abbrev pub has_committed : Fate → Bool
has_committed (fates.Committed number runs) = true
has_committed other = false

-- how many are said to have committed
abbrev pub commits : List Told → ℕ
commits told = length (filter (λ one. has_committed one.fate) told)

-- the entries in order of their commit numbers, from 1 to how many there are
abbrev pub journal_of : List Told → List Entry
journal_of told = flat_map (λ number. entries_of number 1 told) (range_with_len 1 (commits told))

abbrev pub joint_answer_of : ToldJoint → JointAnswer
joint_answer_of joint = record { members = map (λ told. told.member) joint.members }

-- under each name the rows of the table that is shown under it
abbrev pub shown_database : List Shown → Database
shown_database [] name = set.empty
shown_database (shown ∷ more) name =
    if same_name shown.name name then set.from_list shown.rows else shown_database more name

-- The book that a history tells of. Where its commit numbers aren't those from 1 to how many there are, each once, it
-- holds less or more than the history tells.
abbrev pub book_of : History → Book Database
book_of history = record {
  opening = history.opening;
  scripts = history.scripts;
  journal = journal_of history.transactions;
  joint_answers = map joint_answer_of history.joint_answers;
  fates = fates_from 1 history.transactions;
  database = shown_database history.tables;
}
