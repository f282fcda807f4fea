-- The lines of the transactions, and of their answers.
use Rattle.std.specs.Prelude.{◌≡◌, ◌≢◌, ◌≤◌, ◌<◌, ◌+◌, ⊤, ℕ, List, [], ◌∷◌, ◌++◌, length, Some, None, codes}
use Rattle.std.specs.List.{AllByRecursion}
use Rattle.std.specs.Fmt.{decimal}
use Rattle.ent_value.specs.declared.value.Value.{Value}
use Rattle.ent_tree.specs.declared.limits.TheConstants.{MOST_RUNS}
use Rattle.ent_tree.specs.declared.script.Statement.{Statement}
use Rattle.ent_tree.specs.declared.script.Statement.TheVariants as statements
use Rattle.ent_semantics.specs.declared.answer.Answer.{Answer}
use Rattle.ent_semantics.specs.declared.answer.Answer.TheVariants as answers
use Rattle.ent_semantics.specs.declared.answer.Fact.{Fact}
use Rattle.ent_semantics.specs.declared.book.Fate.{Fate}
use Rattle.ent_semantics.specs.declared.book.Fate.TheVariants as fates
use Rattle.ent_book.specs.Report.{line, row_line, answer_text}
use Rattle.ent_history.specs.declared.history.Told.{Told}
use Rattle.ent_history.specs.Text.{tx_text}
use Rattle.ent_history.specs.Parts.{IsName, IsNumber, IsRow, IsValue, Ascends}
use Rattle.ent_history.specs.Draft.{Draft, Free, AnswerRows, rows_due, on_last, last_of, answer_due}
use Rattle.ent_history.specs.Draft.{NothingBelowTransactions}

-- ---- transactions

-- 1 to 1,000
abbrev pub AreRuns : ℕ → Type 0
AreRuns runs = (1 ≤ runs) × (runs ≤ MOST_RUNS)

-- any commit number; another rule judges it
abbrev pub IsFate : Fate → Type 0
IsFate (fates.Committed number runs) = IsNumber number × AreRuns runs
IsFate (fates.GaveUp runs) = AreRuns runs
IsFate (fates.RolledBack runs) = AreRuns runs
IsFate (fates.Failed failure runs) = AreRuns runs

-- A transaction: `tx`, its number, its fate. There is one for each script, and the one above has all its answers.
pub record TxStands (draft : Draft) (text : List ℕ) (next : Draft) : Type 0 where
  pub fate : Fate
  pub free : draft.due ≡ Free
  pub nothing_below : NothingBelowTransactions draft.told
  pub answered : answer_due draft.told.scripts draft.told.transactions ≡ None
  pub of_script : length draft.told.transactions < length draft.told.scripts
  pub text_is : text ≡ tx_text (length draft.told.transactions + 1) (record { fate = fate; answers = [] })
  pub is_fate : IsFate fate
  pub next_is : next ≡ record {
    told = record draft.told {
      transactions = draft.told.transactions ++ record { fate = fate; answers = [] } ∷ [];
    };
    due = Free;
  }

-- ---- answers

-- the sort of answer that a statement has
abbrev pub IsOfSort : Statement → Answer → Type 0
IsOfSort (statements.Select select) (answers.Rows rows) = ⊤
IsOfSort (statements.Entangled entangled) (answers.Heads facts) = ⊤
IsOfSort (statements.Insert insert) (answers.Count count) = ⊤
IsOfSort (statements.Delete delete) (answers.Count count) = ⊤
IsOfSort (statements.Update update) (answers.Count count) = ⊤
IsOfSort (statements.Set set) (answers.Value value) = ⊤
IsOfSort statement answer = ⊥

abbrev pub IsFact : Fact → Type 0
IsFact fact = IsName fact.relation × IsRow fact.values

-- an answer whose shape is right, no row of it yet: how many heads there are, of which relations and of which values,
-- another rule judges
abbrev pub IsAnswer : Answer → Type 0
IsAnswer (answers.Count count) = IsNumber count
IsAnswer (answers.Value value) = IsValue value
IsAnswer (answers.Rows rows) = rows ≡ []
IsAnswer (answers.Heads facts) = (facts ≢ []) × AllByRecursion IsFact facts

-- the line of an answer; one of rows says how many follow
abbrev pub answer_line_text : ℕ → Answer → ℕ → List ℕ
answer_line_text place (answers.Rows rows) count =
    line (decimal place ++ (codes " rows " ++ decimal count))
answer_line_text place other count = decimal place ++ (codes " " ++ answer_text other)

-- only rows are followed by lines
abbrev pub HasSoMany : Answer → ℕ → Type 0
HasSoMany (answers.Rows rows) count = IsNumber count
HasSoMany other count = count ≡ 0

abbrev pub with_answer : Answer → Told → Told
with_answer answer told = record { fate = told.fate; answers = told.answers ++ answer ∷ [] }

-- how many answers the last transaction has
abbrev pub answers_so_far : List Told → ℕ
answers_so_far [] = 0
answers_so_far (told ∷ []) = length told.answers
answers_so_far (told ∷ next ∷ more) = answers_so_far (next ∷ more)

-- An answer: the place of its statement, and what was answered, of that statement's sort.
pub record AnswerStands (draft : Draft) (text : List ℕ) (next : Draft) : Type 0 where
  pub statement : Statement
  pub answer : Answer
  pub count : ℕ
  pub free : draft.due ≡ Free
  pub nothing_below : NothingBelowTransactions draft.told
  pub due : answer_due draft.told.scripts draft.told.transactions ≡ Some statement
  pub text_is : text ≡ answer_line_text (answers_so_far draft.told.transactions + 1) answer count
  pub sort : IsOfSort statement answer
  pub shape : IsAnswer answer
  pub so_many : HasSoMany answer count
  pub next_is : next ≡ record {
    told = record draft.told { transactions = on_last (with_answer answer) draft.told.transactions };
    due = rows_due AnswerRows count;
  }

-- the rows of an answer
abbrev pub rows_of : Answer → List (List Value)
rows_of (answers.Rows rows) = rows
rows_of other = []

abbrev pub with_row : List Value → Answer → Answer
with_row row (answers.Rows rows) = answers.Rows (rows ++ row ∷ [])
with_row row other = other

abbrev pub with_answer_row : List Value → Told → Told
with_answer_row row told = record { fate = told.fate; answers = on_last (with_row row) told.answers }

-- A row of the last answer, ascending; how long it is and of which kinds another rule judges.
pub record AnswerRowStands (draft : Draft) (text : List ℕ) (next : Draft) : Type 0 where
  pub more : ℕ
  pub last : Told
  pub answer : Answer
  pub row : List Value
  pub due : draft.due ≡ AnswerRows more
  pub last_is : last_of draft.told.transactions ≡ Some last
  pub answer_is : last_of last.answers ≡ Some answer
  pub text_is : text ≡ row_line row
  pub is_row : IsRow row
  pub ascends : Ascends (rows_of answer) row
  pub next_is : next ≡ record {
    told = record draft.told { transactions = on_last (with_answer_row row) draft.told.transactions };
    due = rows_due AnswerRows more;
  }
