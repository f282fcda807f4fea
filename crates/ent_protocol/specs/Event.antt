-- What is asked of a core, and what it replies.
use Rattle.std.specs.Prelude.{ℕ, List}
use Rattle.ent_tree.specs.declared.script.Script.{Script}
use Rattle.ent_semantics.specs.declared.answer.Answer.{Answer}
use Rattle.ent_semantics.specs.declared.answer.Failure.{Failure}
use Rattle.ent_semantics.specs.Pool.{Unsafe}
use Rattle.ent_protocol.specs.Job.{Job, Done}

pub data Event : Type 0 where
  Submit : (script : Script) → Event
  StartRun : Event
  Begin : (tx : ℕ) → Event
  Finish : (done : Done) → Event
  Pick : Event
  JoinAnswer : (done : Done) → Event
  BreakCycle : Event
  EndRun : Event
  Recall : Event

-- why a run can't end yet
pub data Reason : Type 0 where
  JobOut : (tx : ℕ) → Reason
  CanBegin : (tx : ℕ) → Reason
  Untried : (tx : ℕ) → Reason
  Cycle : (members : List ℕ) → Reason

-- F is the fault of a script's form
pub data Reply (F : Type 0) : Type 0 where
  Submitted : (tx : ℕ) → Reply F
  Started : (members : List ℕ) → Reply F
  Blocked : (holder : ℕ) → Reply F
  Lent : (job : Job) → Reply F
  -- the fault's index of a post counts from 0
  HeldBack : (fault : Unsafe) → Reply F
  Posted : Reply F
  Prepared : Reply F
  Committed : (entries : List (ℕ × ℕ)) → Reply F
  RolledBack : (group : List ℕ) → Reply F
  Stepped : (answer : Answer) → Reply F
  Failed : (failure : Failure) → (group : List ℕ) → Reply F
  Nothing : Reply F
  Answered : Reply F
  NoChoice : Reply F
  Broken : (cycle : List ℕ) → (group : List ℕ) → Reply F
  NoCycle : Reply F
  Ended : (members : List ℕ) → Reply F
  Recalled : Reply F
  -- refusals
  Absent : Reply F
  NotNow : Reply F
  Stale : (done : Done) → Reply F
  Busy : (reason : Reason) → Reply F
  Full : (script : Script) → Reply F
  Faulty : (script : Script) → (fault : F) → Reply F
