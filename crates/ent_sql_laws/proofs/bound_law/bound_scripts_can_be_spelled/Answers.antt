use Rattle.ent_bound.specs.Bound.{bound_script}
use Rattle.ent_sql_laws.proofs.Readable.{bound_script_fits, bound_script_is_readable}
use Rattle.ent_sql_laws.proofs.bound_law.bound_scripts_can_be_spelled.Goals as goal

pub returns-clause-fits : goal.returns-clause-fits
returns-clause-fits c = bound_script_fits

pub returns-clause-readable : goal.returns-clause-readable
returns-clause-readable c = bound_script_is_readable

pub returns-clause-again : goal.returns-clause-again
returns-clause-again c = λ variables text input script can is held.
    let kept = c.read_scripts_can_be_printed.ensures.each text input script is held in
    c.printed_text_is_itself.ensures (bound_script variables script) (bound_script_fits variables script kept.0)
    (bound_script_is_readable variables script can kept.1)
