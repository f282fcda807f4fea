use Rattle.ent_lists.specs.Elements.{in_contains}
use Rattle.ent_semantics.specs.Serial.{script_read_views}
use Rattle.ent_program_laws.proofs.Stored.{holds_stored, stored_held}
use Rattle.ent_program_laws.proofs.Turns.{turn_runs}
use Rattle.ent_program_laws.proofs.answer_law.scripts_answer_what_can_be_told.Goals as goal

pub returns-clause-rows : goal.returns-clause-rows
returns-clause-rows c declared turn database run none can rows grounded e =
    let runs = turn_runs c.forms_run_as_statements.ensures declared none turn can database
    (stored_held declared database rows)
    (λ read_view at. grounded read_view (in_contains (script_read_views declared turn database) read_view at)) in
    holds_stored declared run.database none (runs.leaves run e)

pub returns-clause-answers : goal.returns-clause-answers
returns-clause-answers c declared turn database run none can rows grounded e counted =
    let runs = turn_runs c.forms_run_as_statements.ensures declared none turn can database
    (stored_held declared database rows)
    (λ read_view at. grounded read_view (in_contains (script_read_views declared turn database) read_view at)) in
    runs.tells run e counted
