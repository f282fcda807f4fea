use Rattle.ent_lists.specs.Elements.{in_contains}
use Rattle.ent_semantics.specs.Serial.{scripts_read_views}
use Rattle.ent_program_laws.proofs.Stored.{holds_stored, stored_held}
use Rattle.ent_program_laws.proofs.Turns.{turns_run}
use Rattle.ent_program_laws.proofs.answer_law.runs_answer_what_can_be_told.Goals as goal

pub returns-clause-rows : goal.returns-clause-rows
returns-clause-rows c declared turns database runs none can rows grounded e =
    let all = turns_run c.forms_run_as_statements.ensures declared none turns
    (λ turn at. can turn (in_contains turns turn at)) database (stored_held declared database rows)
    (λ read_view at. grounded read_view (in_contains (scripts_read_views declared turns database) read_view at)) in
    holds_stored declared runs.database none (all.leaves runs e)

pub returns-clause-answers : goal.returns-clause-answers
returns-clause-answers c declared turns database runs none can rows grounded e counted =
    let all = turns_run c.forms_run_as_statements.ensures declared none turns
    (λ turn at. can turn (in_contains turns turn at)) database (stored_held declared database rows)
    (λ read_view at. grounded read_view (in_contains (scripts_read_views declared turns database) read_view at)) in
    all.tells runs e counted
