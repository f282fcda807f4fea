use Rattle.ent_protocol_laws.proofs.SettledTables.{settled_before}
use Rattle.ent_protocol_laws.proofs.steps_law.settled_tables_precede_changes.Goals as goal

pub returns : goal.returns
returns g c forms s reached =
    settled_before s (c.reached_states_are_tidy.ensures.tidy forms s reached)
    (c.transactions_stand_once.ensures.once forms s reached)
