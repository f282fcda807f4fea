-- Jobs: work, with the tables that it uses as they stand.
use Rattle.std.specs.Prelude.{◌≡◌, ℕ, zero, suc, map, List, [], ◌∷◌, Option, Result, Ok, Err, slice_index_or}
use Rattle.ent_lists.specs.Sets as set
use Rattle.ent_value.specs.declared.value.Value.{Value}
pub use Rattle.ent_rel.specs.Numbered.{Numbered}
use Rattle.ent_semantics.specs.declared.answer.Answer.TheVariants as answers
use Rattle.ent_semantics.specs.declared.answer.Failure.{Failure}
use Rattle.ent_semantics.specs.Database.{Rows, nothing_bound}
use Rattle.ent_semantics.specs.Effect.{Effect}
use Rattle.ent_semantics.specs.Entangled.{Valuation}
use Rattle.ent_semantics.specs.FormKinds.{changed_tables}
use Rattle.ent_semantics.specs.declared.entangled.Entangled.{Entangled}
use Rattle.ent_semantics.specs.declared.statement.Statement.{Statement}
use Rattle.ent_semantics.specs.Form.{Tables, closed_worth, form_meaning}
use Rattle.ent_semantics.specs.Choice.{IsLeastChoiceIfAny}
use Rattle.ent_semantics.specs.Pool.{Posted}

-- a closed statement of a transaction, of this attempt and at this place
pub record Single : Type 0 where
  pub tx : ℕ
  pub attempt : ℕ
  pub place : ℕ
  pub statement : Statement Value

pub data Work : Type 0 where
  One : (single : Single) → Work
  Joint : (posted : List Posted) → Work

pub record Job : Type 0 where
  pub work : Work
  pub tables : List Numbered

-- the tables with other rows in that of a number; those before it that aren't there have no rows
abbrev pub laid : ℕ → Rows → Tables → Tables
laid zero rows [] = rows ∷ []
laid zero rows (other ∷ more) = rows ∷ more
laid (suc n) rows [] = set.empty ∷ laid n rows []
laid (suc n) rows (other ∷ more) = other ∷ laid n rows more

-- the tables that a job sees, each at its number; no other has a row
abbrev pub tables_of : List Numbered → Tables
tables_of [] = []
tables_of (seen ∷ more) = laid seen.table seen.rows (tables_of more)

-- what work comes to
pub data Outcome : Type 0 where
  Shown : (rows : List (List Value)) → Outcome
  Changed : (count : ℕ) → (removed added : List (List Value)) → Outcome
  Bound : (value : Value) → Outcome
  Choice : (groundings : Option (List Valuation)) → Outcome
  Fault : (failure : Failure) → Outcome

-- the rows of a table without those that are removed, and with those that are added
abbrev pub applied : List (List Value) → List (List Value) → Rows → Rows
applied removed added rows = set.insert_all (set.without_all rows removed) added

-- the rows of the table that a statement changes
abbrev pub rows_to_change : Statement Value → Tables → Rows
rows_to_change statement tables = rows_of (changed_tables statement)
  where
    rows_of : List ℕ → Rows
    rows_of [] = set.empty
    rows_of (table ∷ more) = slice_index_or tables table set.empty

-- an outcome is what an ordinary statement leaves and answers over these tables
abbrev pub IsEffect : Statement Value → Tables → Result (Effect Tables) Failure → Outcome → Type 0
IsEffect statement tables (Ok effect) (Shown rows) = effect.answer ≡ answers.Rows rows
IsEffect statement tables (Ok effect) (Changed count removed added) =
    (effect.answer ≡ answers.Count count)
    × (rows_to_change statement effect.database ≡ applied removed added (rows_to_change statement tables))
IsEffect statement tables (Ok effect) (Bound value) = effect.answer ≡ answers.Value value
IsEffect statement tables (Err failure) (Fault other) = failure ≡ other
IsEffect statement tables result outcome = ⊥

-- the meaning of work over its own tables: that of an ordinary statement, or the least coordinating choice
abbrev pub IsOutcome : Work → Tables → Outcome → Type 0
IsOutcome (One single) tables outcome =
    IsEffect single.statement tables (form_meaning closed_worth single.statement [] tables nothing_bound) outcome
IsOutcome (Joint posted) tables (Choice groundings) =
    IsLeastChoiceIfAny tables posted groundings
IsOutcome (Joint posted) tables outcome = ⊥

-- a job that came back with its outcome
pub record Done : Type 0 where
  pub job : Job
  pub outcome : Outcome

-- what holds of a result that is accepted: its outcome is the meaning of its own work over its own tables
abbrev pub IsEvaluated : Done → Type 0
IsEvaluated done = IsOutcome done.job.work (tables_of done.job.tables) done.outcome
