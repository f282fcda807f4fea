use Rattle.ent_sql_laws.proofs.KeptScripts.{read_input_is_kept, script_is_kept}
use Rattle.ent_sql_laws.proofs.round_trip.read_scripts_can_be_printed.Goals as goal

pub returns-clause-each : goal.returns-clause-each
returns-clause-each c = λ text input script is held.
    script_is_kept input script
    (read_input_is_kept c.reading_is_exact.ensures.input c.reader_is_exact.ensures.tokens text input is) held

pub returns-clause-limit : goal.returns-clause-limit
returns-clause-limit c = λ text input is.
    (read_input_is_kept c.reading_is_exact.ensures.input c.reader_is_exact.ensures.tokens text input is).1
