-- One run of a core.
use Rattle.std.specs.Prelude.{◌≡◌, ◌<◌, ◌≤◌, ℕ, [], false}
use Rattle.ent_protocol_laws.specs.Tries.{tries_left}
use Rattle.ent_protocol.specs.Event.{Recall, Recalled}
use Rattle.ent_protocol.specs.Reached.{CanClose}
use Rattle.ent_protocol.specs.State.{State}
use Rattle.ent_protocol.specs.Step.{Step}
use Rattle.ent_sched.specs.Passed.{resolved_forms}
use Rattle.ent_sched.specs.Bounds.{events_of_run}
use Rattle.ent_sched.specs.Onward.{LeadsOn}

-- All jobs are taken back. Then so many events lead to the end of a run, no more than a run may make, and a try is used
-- up; or nothing was left to be done, and nothing is done.
pub record RunsOnce (s new : State) : Type 0 where
  pub recalled : State
  pub recalls : Step resolved_forms s Recall Recalled recalled
  pub count : ℕ
  pub leads_on : LeadsOn resolved_forms count recalled new
  pub few : count ≤ events_of_run recalled
  pub ended : new.running ≡ false
  pub none_lent : new.lent ≡ []
  pub tries : ¬ CanClose recalled → tries_left new < tries_left recalled
  pub same : CanClose recalled → new ≡ recalled
