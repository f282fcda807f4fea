-- Events that a telling needn't hear of.
use Rattle.std.proofs.Common.{◌≡◌, Bool, true, false, List, [], ◌∷◌, ap}
use Rattle.ent_form.specs.declared.fault.FormFault.{FormFault}
use Rattle.ent_sched.specs.Passed.{resolved_forms}
use Rattle.ent_protocol_laws.specs.Commits.{is_commit}
use Rattle.ent_protocol.specs.Event.{Recall, Reply, StartRun}
use Rattle.ent_protocol.specs.Run.{StartsWith}
use Rattle.ent_protocol.specs.State.{Dormant, State}
use Rattle.ent_protocol.specs.Step.{Step}

pub recall_is_no_commit : (s new : State) (reply : Reply FormFault) → Step resolved_forms s Recall reply new
    → is_commit reply ≡ false
recall_is_no_commit s new reply step = ap is_commit step.0

by_start : (s new : State) (reply : Reply FormFault) (running : Bool) (dormant : List Dormant)
    → StartsWith s running dormant reply new → is_commit reply ≡ false
by_start s new reply true dormant step = ap is_commit step.0
by_start s new reply false [] step = ap is_commit step.0
by_start s new reply false (first ∷ more) step = ap is_commit step.0

pub start_is_no_commit : (s new : State) (reply : Reply FormFault) → Step resolved_forms s StartRun reply new
    → is_commit reply ≡ false
start_is_no_commit s new reply step = by_start s new reply s.running s.dormant step
