use Rattle.ent_headline.specs.Resolved.{resolved_forms}
use Rattle.ent_renewal.proofs.Rest.{present_held, settled_present}
use Rattle.ent_renewal.proofs.law.states_at_rest_hold_their_tables.Goals as goal

pub returns-clause-settled : goal.returns-clause-settled
returns-clause-settled c = λ s reached can.
    settled_present s (c.reached_states_are_tidy.ensures.settled resolved_forms s reached can.0)

pub returns-clause-holds : goal.returns-clause-holds
returns-clause-holds c = λ s formed reached can.
    present_held s (c.resolved_runs_keep_kinds.ensures s formed reached).tables formed
    (c.reached_states_are_tidy.ensures.settled resolved_forms s reached can.0)
