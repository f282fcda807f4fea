-- The text of a report, version 1.
use Rattle.std.specs.Prelude.{ℕ, ◌+◌, List, [], ◌∷◌, ◌++◌, length, map, Option, Some, None, codes}
use Rattle.std.specs.List.{flat_map}
use Rattle.std.specs.Fmt.{decimal}
use Rattle.std.specs.Ordering.{nat_cmp}
use Rattle.std.specs.Cmp.Lexicographic.{slice_cmp}
use Rattle.ent_lists.specs.Sets as set
use Rattle.ent_value.specs.Print.{value_text, row_text}
use Rattle.ent_value.specs.declared.value.Value.{Value}
use Rattle.ent_tree.specs.declared.declaration.Opening.{Opening}
use Rattle.ent_semantics.specs.declared.answer.Answer.{Answer}
use Rattle.ent_semantics.specs.declared.answer.Answer.TheVariants as answers
use Rattle.ent_semantics.specs.declared.answer.Fact.{Fact}
use Rattle.ent_semantics.specs.declared.book.Book.{Book}
use Rattle.ent_semantics.specs.declared.book.Entry.{Entry}
use Rattle.ent_semantics.specs.declared.book.Fate.{Fate}
use Rattle.ent_semantics.specs.declared.book.Fate.TheVariants as fates
use Rattle.ent_semantics.specs.declared.book.Fated.{Fated}
use Rattle.ent_semantics.specs.declared.book.JointAnswer.{JointAnswer}
use Rattle.ent_semantics.specs.declared.book.Member.{Member}
use Rattle.ent_semantics.specs.Database.{Name, Rows, Database}
use Rattle.ent_semantics.specs.Failure.{failure_name}
use Rattle.ent_semantics.specs.Serial.{numbered}

abbrev pub line : List ℕ → List ℕ
line text = text ++ 10 ∷ []

-- rows, a line each
abbrev pub row_line : List Value → List ℕ
row_line row = line (row_text row)

abbrev pub rows_text : List (List Value) → List ℕ
rows_text rows = flat_map row_line rows

-- how many runs it took part in
abbrev pub after_text : ℕ → List ℕ
after_text runs = codes " after " ++ decimal runs

abbrev pub fate_text : Fate → List ℕ
fate_text (fates.Committed number runs) = codes "committed " ++ (decimal number ++ after_text runs)
fate_text (fates.GaveUp runs) = codes "gave up" ++ after_text runs
fate_text (fates.RolledBack runs) = codes "rolled back" ++ after_text runs
fate_text (fates.Failed failure runs) = codes "failed " ++ (failure_name failure ++ after_text runs)

-- a row of an answer relation, behind a space
abbrev pub fact_text : Fact → List ℕ
fact_text fact = codes " " ++ (fact.relation ++ row_text fact.values)

abbrev pub facts_text : List Fact → List ℕ
facts_text facts = flat_map fact_text facts

abbrev pub answer_text : Answer → List ℕ
answer_text (answers.Count count) = line (codes "count " ++ decimal count)
answer_text (answers.Value value) = line (codes "set " ++ value_text value)
answer_text (answers.Rows rows) = line (codes "rows " ++ decimal (length rows)) ++ rows_text rows
answer_text (answers.Heads facts) = line (codes "answer" ++ facts_text facts)

-- answers in order of their statements, from a place on
abbrev pub answers_text : ℕ → List Answer → List ℕ
answers_text place [] = []
answers_text place (answer ∷ more) =
    (decimal place ++ (codes " " ++ answer_text answer)) ++ answers_text (place + 1) more

abbrev pub entry_answers : Option Entry → List Answer
entry_answers None = []
entry_answers (Some entry) = entry.answers

-- the answers of a transaction that committed: those of the entry of its number
abbrev pub fate_answers : List Entry → Fate → List Answer
fate_answers journal (fates.Committed number runs) = entry_answers (numbered journal number)
fate_answers journal (fates.GaveUp runs) = []
fate_answers journal (fates.RolledBack runs) = []
fate_answers journal (fates.Failed failure runs) = []

-- a transaction: its fate, then its answers
abbrev pub transaction_text : List Entry → Fated → List ℕ
transaction_text journal fated =
    line (codes "tx " ++ (decimal fated.tx ++ (codes " " ++ fate_text fated.fate)))
    ++ answers_text 1 (fate_answers journal fated.fate)

abbrev pub transactions_text : List Entry → List Fated → List ℕ
transactions_text journal fates = flat_map (transaction_text journal) fates

-- an entangled statement: its transaction and its place
abbrev pub member_place : Member → List ℕ
member_place member = decimal member.tx ++ (codes "." ++ decimal member.place)

-- a member of a joint answer, behind a space
abbrev pub member_text : Member → List ℕ
member_text member = codes " " ++ member_place member

abbrev pub members_text : List Member → List ℕ
members_text members = flat_map member_text members

abbrev pub joint_line : ℕ → JointAnswer → List ℕ
joint_line number joint = line (codes "joint " ++ (decimal number ++ members_text joint.members))

-- joint answers in the order made, from a number on
abbrev pub joints_text : ℕ → List JointAnswer → List ℕ
joints_text number [] = []
joints_text number (joint ∷ more) = joint_line number joint ++ joints_text (number + 1) more

-- a table: its name, how many rows it has, and these, ascending
abbrev pub table_text : Name → Rows → List ℕ
table_text name rows =
    line (codes "table " ++ (name ++ (codes " " ++ decimal (set.len rows)))) ++ rows_text (set.ascending rows)

-- the names of the declared tables, by their bytes
abbrev pub names_by_bytes : Opening → List Name
names_by_bytes opening =
    set.ascending (set.from_list {R = slice_cmp nat_cmp} (map (λ create. create.name.name) opening.tables))

abbrev pub tables_text : List Name → Database → List ℕ
tables_text names database = flat_map (λ name. table_text name (database name)) names

abbrev pub report_text : Book Database → List ℕ
report_text book =
    line (codes "report 1")
    ++ (transactions_text book.journal book.fates
    ++ (joints_text 1 book.joint_answers
    ++ (tables_text (names_by_bytes book.opening) book.database
    ++ line (codes "end"))))
