use Rattle.ent_lists.specs.Elements.{contains_in, in_contains}
use Rattle.ent_semantics.specs.Serial.{scripts_read_views}
use Rattle.ent_program_laws.proofs.Seeing.{scripts_see}
use Rattle.ent_program_laws.proofs.meeting_law.texts_know_what_is_seen.Goals as goal

pub returns : goal.returns
returns c declared turns database read_view has =
    let r = scripts_see declared turns database read_view
    (contains_in (scripts_read_views declared turns database) read_view has) in
    (r.0, in_contains turns r.0 r.1, r.2, r.3)
