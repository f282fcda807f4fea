-- What a result comes to.
use Rattle.std.specs.Prelude.{◌≡◌, ◌<◌, ℕ, List, Option, Some, None, length, slice_get, slice_index_or}
use Rattle.std.specs.List.{AllByRecursion}
use Rattle.ent_lists.specs.Sets as set
use Rattle.ent_value.specs.declared.value.Value.{Value}
use Rattle.ent_semantics.specs.FormKinds.{changed_tables}
use Rattle.ent_semantics.specs.declared.statement.Statement.{Statement}
use Rattle.ent_ordinary.specs.Change.{IsApplicable}
use Rattle.ent_eval.specs.Result.{answer_of}
use Rattle.ent_form.specs.declared.fault.FormFault.{FormFault}
use Rattle.ent_protocol.specs.Event.{Reply}
use Rattle.ent_protocol.specs.Event as replies
use Rattle.ent_protocol.specs.Finish.{FinishesBy, FinishesSingle, IsOutstandingSingle, IsTaken}
use Rattle.ent_protocol.specs.Job.{Done, Job, One, Outcome, Shown, Changed, Bound, Choice, Fault, Single}
use Rattle.ent_protocol.specs.Member.{active_member, declared_kinds}
use Rattle.ent_protocol.specs.State.{State, Member}
use Rattle.ent_rel.specs.declared.change.Delta.{Delta}
use Rattle.ent_semantics.specs.declared.answer.Answer.{Answer}
use Rattle.ent_core.specs.declared.finish.Carried.{Carried}
use Rattle.ent_core.specs.declared.finish.Carried.TheVariants as carried

-- a table is declared, and a change can be made in it as it stands
pub record CanChange (s : State) (delta : Delta) (table : ℕ) : Type 0 where
  pub declared : table < length s.opening.tables
  pub applicable : IsApplicable (record {
    kinds = declared_kinds s.opening.tables table;
    rows = slice_index_or s.tables table set.empty;
  })
      delta

-- where an outcome is a change, it can be made in the statement's table
abbrev pub MayCarryOut : State → Statement Value → Outcome → Type 0
MayCarryOut s statement (Shown rows) = Unit {0}
MayCarryOut s statement (Changed count removed added) =
    AllByRecursion (CanChange s (record { removed = removed; added = added })) (changed_tables statement)
MayCarryOut s statement (Bound value) = Unit {0}
MayCarryOut s statement (Choice groundings) = Unit {0}
MayCarryOut s statement (Fault failure) = Unit {0}

-- the job at an index is lent no more, and the member of its statement goes on with the outcome, or is rolled back
abbrev pub CarriesOut : State → ℕ → Single → Outcome → Reply FormFault → State → Type 0
CarriesOut s index single outcome reply new =
    (job : Job) (member : Member) → slice_get s.lent index ≡ Some job → active_member s single.tx ≡ Some member
    → (left : List Job) × IsTaken job s.lent left
    × FinishesBy (record s { lent = left }) member single.statement outcome reply new

-- where the job of a result stands among those that are lent, which is of one statement; nowhere where the result isn't
-- outstanding
abbrev pub StandsAt : State → Done → Option ℕ → Type 0
StandsAt s done None = IsOutstandingSingle s done → ⊥
StandsAt s done (Some place) =
    (slice_get s.lent place ≡ Some done.job) × ((single : Single) × (done.job.work ≡ One single))

-- the reply to an outcome: what the statement answers, or that it failed
abbrev pub IsReplyTo : Outcome → Carried → Reply FormFault → Type 0
IsReplyTo outcome carried.Stepped reply =
    (answer : Answer) × (answer_of outcome ≡ Some answer) × (reply ≡ replies.Stepped answer)
IsReplyTo outcome (carried.Failed failure group) reply = reply ≡ replies.Failed failure group

-- a result that is outstanding is carried out; where nothing is, it isn't outstanding
abbrev pub Accepts : State → Done → Option Carried → State → Type 0
Accepts s done None new = (IsOutstandingSingle s done → ⊥) × (new ≡ s)
Accepts s done (Some how) new =
    (reply : Reply FormFault) × IsReplyTo done.outcome how reply
    × ((single : Single) × (done.job.work ≡ One single) × FinishesSingle s done single reply new)
