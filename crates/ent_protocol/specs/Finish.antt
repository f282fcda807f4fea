-- A result of one statement comes in.
use Rattle.std.specs.Prelude.{◌≡◌, ◌⊎◌, ℕ, suc, false, List, [], ◌∷◌, ◌++◌, Some, slice_index_or, slice_set}
use Rattle.ent_lists.specs.Sets as set
use Rattle.ent_value.specs.declared.value.Value.{Value}
use Rattle.ent_semantics.specs.declared.answer.Answer.{Answer}
use Rattle.ent_semantics.specs.declared.answer.Answer.TheVariants as answers
use Rattle.ent_semantics.specs.Database.{Name}
use Rattle.ent_semantics.specs.FormKinds.{changed_tables}
use Rattle.ent_semantics.specs.declared.statement.Statement.{Statement}
use Rattle.ent_semantics.specs.declared.statement.Statement.TheVariants as statements
use Rattle.ent_semantics.specs.Form.{Tables}
use Rattle.ent_protocol.specs.Begin.{Refuses, with_member}
use Rattle.ent_protocol.specs.Event.{Reply}
use Rattle.ent_protocol.specs.Event as replies
use Rattle.ent_protocol.specs.Job.{Job, One, Single, Done, Outcome, Shown, Changed, Bound, Choice, Fault}
use Rattle.ent_protocol.specs.Job.{applied, IsEvaluated}
use Rattle.ent_protocol.specs.Member.{active_member}
use Rattle.ent_protocol.specs.Rollback.{Failing, rolled_back, group_numbers}
use Rattle.ent_protocol.specs.State.{State, Member, Change}

-- a job is one of a list, and these are the others
pub record IsTaken (job : Job) (jobs left : List Job) : Type 0 where
  pub before : List Job
  pub behind : List Job
  pub is_there : jobs ≡ before ++ job ∷ behind
  pub others : left ≡ before ++ behind

-- the host variable that a SET binds
abbrev pub variable_of : Statement Value → List Name
variable_of (statements.Set variable expression) = variable ∷ []
variable_of other = []

-- the tables with those rows removed and these added in a table
abbrev pub with_change : List ℕ → List (List Value) → List (List Value) → Tables → Tables
with_change [] removed added tables = tables
with_change (table ∷ more) removed added tables =
    slice_set tables table (applied removed added (slice_index_or tables table set.empty))

-- the table as it stood is noted
abbrev pub noted : ℕ → List ℕ → Tables → List Change → List Change
noted tx [] tables changes = changes
noted tx (table ∷ more) tables changes =
    record { tx = tx; table = table; before = slice_index_or tables table set.empty } ∷ changes

abbrev pub with_bound : List Name → Value → List (Name × Value) → List (Name × Value)
with_bound [] value bound = bound
with_bound (variable ∷ more) value bound = bound ++ (variable, value) ∷ []

-- a member with the answer of its statement, at the next one
abbrev pub stepped : Answer → Member → Member
stepped answer member =
    record member { place = suc member.place; answers = member.answers ++ answer ∷ []; posted = false }

-- the statement's effect: the answer is kept, the change made and noted, the host variable bound
abbrev pub finished : State → Member → Statement Value → Outcome → State
finished s member statement (Changed count removed added) =
    let steps = with_member (stepped (answers.Count count) member) s in
    record steps {
      tables = with_change (changed_tables statement) removed added s.tables;
      changes = noted member.tx (changed_tables statement) s.tables s.changes;
    }
finished s member statement (Bound value) =
    with_member
    (stepped (answers.Value value) (record member { bound = with_bound (variable_of statement) value member.bound })) s
finished s member statement (Shown rows) = with_member (stepped (answers.Rows rows) member) s
finished s member statement other = s

-- the job of a result is one of a statement, and is lent
abbrev pub IsOutstandingSingle : State → Done → Type 0
IsOutstandingSingle s done =
    (single : Single) × (left : List Job) × (done.job.work ≡ One single) × IsTaken done.job s.lent left

module _ {F : Type 0} where
  -- a failure rolls the group back; else the member goes on
  abbrev pub FinishesBy : State → Member → Statement Value → Outcome → Reply F → State → Type 0
  FinishesBy s member statement (Fault failure) reply new =
      (reply ≡ replies.Failed failure (group_numbers s member.group))
      × (new ≡ rolled_back member.group (Failing member.tx failure) s)
  FinishesBy s member statement (Shown rows) reply new =
      (reply ≡ replies.Stepped (answers.Rows rows)) × (new ≡ finished s member statement (Shown rows))
  FinishesBy s member statement (Changed count removed added) reply new =
      (reply ≡ replies.Stepped (answers.Count count))
      × (new ≡ finished s member statement (Changed count removed added))
  FinishesBy s member statement (Bound value) reply new =
      (reply ≡ replies.Stepped (answers.Value value)) × (new ≡ finished s member statement (Bound value))
  FinishesBy s member statement (Choice groundings) reply new = ⊥

  -- The outcome is what the work means over its own tables. The job is lent, and is lent no more.
  pub record FinishesSingle (s : State) (done : Done) (single : Single) (reply : Reply F) (new : State) : Type 0 where
    pub meant : IsEvaluated done
    pub left : List Job
    pub taken : IsTaken done.job s.lent left
    pub member : Member
    pub is_member : active_member s single.tx ≡ Some member
    pub steps : FinishesBy (record s { lent = left }) member single.statement done.outcome reply new

  -- a result that is outstanding is accepted, and no other
  abbrev pub Finishes : State → Done → Reply F → State → Type 0
  Finishes s done reply new =
      ((single : Single) × (done.job.work ≡ One single) × FinishesSingle s done single reply new)
      ⊎ ((IsOutstandingSingle s done → ⊥) × Refuses s (replies.Stale done) reply new)
