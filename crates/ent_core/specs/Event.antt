-- The events of the code, as those of the protocol.
use Rattle.std.specs.Prelude.{◌≡◌, Some}
use Rattle.ent_protocol.specs.Event.{Event}
use Rattle.ent_protocol.specs.Event as events
use Rattle.ent_protocol.specs.Job.{Fault}
use Rattle.ent_protocol.specs.Member.{RollsBack, active_member, next_of}
use Rattle.ent_protocol.specs.State.{State, Member}
use Rattle.ent_semantics.specs.declared.answer.Failure.{Failure}
use Rattle.ent_core.specs.declared.event.Event.{Event as Given}
use Rattle.ent_core.specs.declared.event.Event.TheVariants as given

abbrev pub event_seen : Given → Event
event_seen (given.Submit script) = events.Submit script
event_seen given.StartRun = events.StartRun
event_seen (given.Begin tx) = events.Begin tx
event_seen (given.Finish done) = events.Finish done
event_seen given.Pick = events.Pick
event_seen (given.JoinAnswer done) = events.JoinAnswer done
event_seen given.BreakCycle = events.BreakCycle
event_seen given.EndRun = events.EndRun
event_seen given.Recall = events.Recall

-- An event for which there may be no memory. A member that rolls back, a statement that failed, a cycle that is broken
-- and a recall take none.
abbrev pub MayWantMemory : State → Event → Type 0
MayWantMemory s (events.Begin tx) =
    (member : Member) → active_member s tx ≡ Some member → next_of s member ≡ RollsBack → ⊥
MayWantMemory s (events.Finish done) = (failure : Failure) → done.outcome ≡ Fault failure → ⊥
MayWantMemory s events.BreakCycle = ⊥
MayWantMemory s events.Recall = ⊥
MayWantMemory s other = Unit {0}
