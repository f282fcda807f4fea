-- One run of scripts that ask for one run each.
use Rattle.std.specs.Prelude.{◌≡◌, ◌≤◌, ℕ, [], length, true, false}
use Rattle.ent_form.specs.declared.fault.FormFault.{FormFault}
use Rattle.ent_group.specs.declared.members.TheConstants.{MOST_MEMBERS}
use Rattle.ent_sched.specs.Passed.{resolved_forms}
use Rattle.ent_protocol.specs.Event.{Recall, Recalled, Reply, StartRun}
use Rattle.ent_protocol.specs.Reached.{CanClose}
use Rattle.ent_protocol.specs.State.{State}
use Rattle.ent_protocol.specs.Step.{Step}
use Rattle.ent_protocol_laws.specs.Attempts.{AskForMost}
use Rattle.ent_sched.specs.Bounds.{events_of_run}
use Rattle.ent_sched.specs.Onward.{LeadsOn}

-- Each script asks for one run. Where none is on, a run has room for all who wait; where one is on, nobody waits for
-- another.
pub record AreForOneRun (s : State) : Type 0 where
  pub once : AskForMost 1 s
  pub fit : s.running ≡ false → length s.dormant ≤ MOST_MEMBERS
  pub alone : s.running ≡ true → s.dormant ≡ []

-- all jobs are taken back, and a run is started, unless one is on or nobody waits
pub record StartsRun (s started : State) : Type 0 where
  pub recalled : State
  pub recalls : Step resolved_forms s Recall Recalled recalled
  pub reply : Reply FormFault
  pub starts : Step resolved_forms recalled StartRun reply started

-- So many events lead on, no more than a run may make, and no script comes in. No run is on then, and nobody waits for
-- another.
pub record EndsRun (started new : State) : Type 0 where
  pub count : ℕ
  pub leads_on : LeadsOn resolved_forms count started new
  pub few : count ≤ events_of_run started
  pub closes : CanClose new
  pub none_lent : new.lent ≡ []

-- one run is made, to its end
pub record MakesRun (s new : State) : Type 0 where
  pub started : State
  pub starts : StartsRun s started
  pub ends : EndsRun started new
