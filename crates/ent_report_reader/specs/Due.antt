-- Where each sort of line is due.
use Rattle.std.specs.Prelude.{◌≡◌, ◌<◌, List, [], length, map, None, Some}
use Rattle.ent_value.specs.Value.{kinds_of}
use Rattle.ent_value.specs.declared.value.Value.{Value}
use Rattle.ent_tree.specs.declared.declaration.Create.{Create}
use Rattle.ent_tree.specs.declared.limits.TheConstants.{MOST_TABLES}
use Rattle.ent_semantics.specs.Serial.{numbered}
use Rattle.ent_semantics.specs.declared.answer.Answer.{Answer}
use Rattle.ent_history.specs.declared.history.History.{History}
use Rattle.ent_history.specs.declared.history.Shown.{Shown}
use Rattle.ent_history.specs.declared.history.Told.{Told}
use Rattle.ent_history.specs.Parts.{Ascends}
use Rattle.ent_history.specs.Draft.{Draft, Free, NothingBelowScripts, NothingBelowTransactions}
use Rattle.ent_history.specs.Draft.{TransactionsAreTold, answer_due, last_of}
use Rattle.ent_history.specs.Answers.{rows_of}

-- the line of a table of the opening, which one aside
pub record OpeningIsNext (draft : Draft) : Type 0 where
  pub free : draft.due ≡ Free
  pub no_scripts : draft.told.scripts ≡ []
  pub nothing_below : NothingBelowScripts draft.told
  pub few_tables : length draft.told.opening.tables < MOST_TABLES

-- the line of a transaction
pub record TxIsNext (draft : Draft) : Type 0 where
  pub free : draft.due ≡ Free
  pub nothing_below : NothingBelowTransactions draft.told
  pub answered : answer_due draft.told.scripts draft.told.transactions ≡ None
  pub of_script : length draft.told.transactions < length draft.told.scripts

-- the line of an answer, whose it is aside
pub record AnswersAreNext (draft : Draft) : Type 0 where
  pub free : draft.due ≡ Free
  pub nothing_below : NothingBelowTransactions draft.told

-- the line of a table at the end, or the last line, which tables stand aside
pub record TablesAreNext (draft : Draft) : Type 0 where
  pub free : draft.due ≡ Free
  pub told : TransactionsAreTold draft.told

-- a row that comes behind those of the last answer
pub record AnswerTakes (transactions : List Told) (row : List Value) : Type 0 where
  pub last : Told
  pub answer : Answer
  pub last_is : last_of transactions ≡ Some last
  pub answer_is : last_of last.answers ≡ Some answer
  pub ascends : Ascends (rows_of answer) row

-- a row that can stand below those of the last table at the end
pub record TableTakes (told : History) (row : List Value) : Type 0 where
  pub shown : Shown
  pub create : Create
  pub last_is : last_of told.tables ≡ Some shown
  pub of_opening : numbered told.opening.tables (length told.tables) ≡ Some create
  pub kinds : kinds_of row ≡ map (λ column. column.kind) create.columns
  pub ascends : Ascends shown.rows row
