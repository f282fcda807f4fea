use Rattle.ent_history.proofs.Scripts.{script_found, script_again}
use Rattle.ent_history.proofs.section_laws.scripts_are_read_as_written.Goals as goal

pub returns-clause-found : goal.returns-clause-found
returns-clause-found c = script_found c.counts_are_read_as_written.ensures.placed_found
    c.counts_are_read_as_written.ensures.placed_again

pub returns-clause-only : goal.returns-clause-only
returns-clause-only c = script_again c.counts_are_read_as_written.ensures.placed_found
    c.counts_are_read_as_written.ensures.placed_again
