use Rattle.ent_lists.specs.Elements.{contains_in, in_contains}
use Rattle.ent_semantics.specs.Serial.{scripts_read_views}
use Rattle.ent_program_laws.proofs.Stored.{stored_held}
use Rattle.ent_program_laws.proofs.Told.{member_told}
use Rattle.ent_program_laws.proofs.Turns.{turns_run}
use Rattle.ent_program_laws.proofs.answer_law.read_views_can_be_told.Goals as goal

pub returns : goal.returns
returns c history turns database read_view none can own rows grounded there =
    let declared = history.opening.tables in
    let all = turns_run c.forms_run_as_statements.ensures declared none turns
    (λ turn at. can turn (in_contains turns turn at)) database (stored_held declared database rows)
    (λ read_view at. grounded read_view (in_contains (scripts_read_views declared turns database) read_view at)) in
    let told = all.sees read_view (contains_in (scripts_read_views declared turns database) read_view there) in
    member_told history told.0 told.1 read_view (own told.0 (in_contains turns told.0 told.2)) told.3 told.4
