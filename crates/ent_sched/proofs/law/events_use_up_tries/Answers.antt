use Rattle.std.proofs.Common.{ap, length}
use Rattle.ent_sched.proofs.Spent.{all_used}
use Rattle.ent_sched.proofs.law.events_use_up_tries.Goals as goal

pub returns : goal.returns
returns g c forms count s new reached asks leads =
    (all_used forms (record {
      goes_on = c.steps_go_on.ensures forms;
      keeps = c.events_keep_the_input.ensures.submitted forms;
      reached = c.events_lead_on.ensures.reached forms;
      kept = c.ended_runs_use_up_tries.ensures.bound forms;
      ended = c.ended_runs_use_up_tries.ensures.ended forms;
    }) count s new reached asks leads.leads (ap length leads.submitted)).0
