-- A report that stands as far as it was read: what it tells so far, and what is due next.
use Rattle.std.specs.Prelude.{◌≡◌, ℕ, zero, suc, List, [], ◌∷◌, length, Option, Some, None, slice_get, if◌then◌else◌}
use Rattle.ent_tree.specs.declared.script.Script.{Script}
use Rattle.ent_tree.specs.declared.script.Statement.{Statement}
use Rattle.ent_history.specs.declared.history.History.{History}
use Rattle.ent_history.specs.declared.history.Told.{Told}
use Rattle.ent_history.specs.Told.{has_committed}

pub data Due : Type 0 where
  -- the first line
  Heading : Due
  -- nothing of what stands above: the next thing
  Free : Due
  -- a row of the last table of the opening, and so many behind it
  OpeningRows : (more : ℕ) → Due
  -- a row of the last answer, and so many behind it
  AnswerRows : (more : ℕ) → Due
  -- the line of a member of the last joint answer, by transaction and place, and of these behind it
  Members : (tx : ℕ) → (place : ℕ) → (more : List (ℕ × ℕ)) → Due
  -- a row of the last table at the end, and so many behind it
  TableRows : (more : ℕ) → Due
  -- nothing: the last line stands
  Ended : Due

pub record Draft : Type 0 where
  pub told : History
  pub due : Due

-- so many rows are due
abbrev pub rows_due : (ℕ → Due) → ℕ → Due
rows_due rows zero = Free
rows_due rows (suc more) = rows more

abbrev pub members_due : List (ℕ × ℕ) → Due
members_due [] = Free
members_due (member ∷ more) = Members member.0 member.1 more

-- a report of which nothing stands yet
abbrev pub blank : Draft
blank = record {
  told = record {
    opening = record { tables = []; rows = [] };
    scripts = [];
    transactions = [];
    joint_answers = [];
    tables = [];
  };
  due = Heading;
}

-- the list with its last element changed
abbrev pub on_last : {A : Type 0} → (A → A) → List A → List A
on_last change [] = []
on_last change (x ∷ []) = change x ∷ []
on_last change (x ∷ y ∷ more) = x ∷ on_last change (y ∷ more)

abbrev pub last_of : {A : Type 0} → List A → Option A
last_of [] = None
last_of (x ∷ []) = Some x
last_of (x ∷ y ∷ more) = last_of (y ∷ more)

-- of a transaction that is said to have committed, the first statement that has no answer yet
abbrev pub unanswered : Script → Told → Option Statement
unanswered script told =
    if has_committed told.fate then slice_get script.statements (length told.answers) else None

-- The statement whose answer is due: that of the last transaction that is told.
abbrev pub answer_due : List Script → List Told → Option Statement
answer_due [] told = None
answer_due (script ∷ scripts) [] = None
answer_due (script ∷ scripts) (told ∷ []) = unanswered script told
answer_due (script ∷ scripts) (told ∷ next ∷ more) = answer_due scripts (next ∷ more)

-- ---- which sections have begun, and which are complete

-- nothing below the scripts stands yet
pub record NothingBelowScripts (told : History) : Type 0 where
  pub transactions : told.transactions ≡ []
  pub joint_answers : told.joint_answers ≡ []
  pub tables : told.tables ≡ []

-- nothing below the transactions stands yet
pub record NothingBelowTransactions (told : History) : Type 0 where
  pub joint_answers : told.joint_answers ≡ []
  pub tables : told.tables ≡ []

-- each script's transaction is told, with its answers
pub record TransactionsAreTold (told : History) : Type 0 where
  pub each : length told.transactions ≡ length told.scripts
  pub answered : answer_due told.scripts told.transactions ≡ None
