-- Why a run can't end yet, in the words of the protocol.
use Rattle.std.specs.Prelude.{List, Option, None, Some}
use Rattle.ent_semantics.specs.Pool.{Posted}
use Rattle.ent_run.specs.Run.{Run}
use Rattle.ent_protocol.specs.Event.{Reason}
use Rattle.ent_protocol.specs.Event as reasons
use Rattle.ent_protocol.specs.Job.{Job}
use Rattle.ent_protocol.specs.Quiet.{IsQuiet, IsReason}
use Rattle.ent_protocol.specs.State.{State, Submitted}
use Rattle.ent_waits.specs.Waits.{state_with}
use Rattle.ent_waits.specs.declared.reason.Reason.{Reason as Why}
use Rattle.ent_waits.specs.declared.reason.Reason.TheVariants as why

abbrev pub reason_seen : Why → Reason
reason_seen (why.JobOut tx) = reasons.JobOut tx
reason_seen (why.CanBegin tx) = reasons.CanBegin tx
reason_seen (why.Untried tx) = reasons.Untried tx
reason_seen (why.Cycle members) = reasons.Cycle members

-- a state with these members, scripts, tried components and lent jobs
abbrev pub state_of : Run → List Submitted → List (List Posted) → List Job → State → State
state_of run submitted tried lent s = record (state_with run submitted lent s) { tried = tried }

-- the reason that holds, or else the run is quiet
abbrev pub IsReasonIfAny : State → Option Why → Type 0
IsReasonIfAny s None = IsQuiet s
IsReasonIfAny s (Some reason) = IsReason s (reason_seen reason)
