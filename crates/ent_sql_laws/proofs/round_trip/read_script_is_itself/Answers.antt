use Rattle.ent_sql_laws.proofs.round_trip.read_script_is_itself.Goals as goal

pub returns : goal.returns
returns c = λ text input script is held.
    let kept = c.read_scripts_can_be_printed.ensures.each text input script is held in
    c.printed_text_is_itself.ensures script kept.0 kept.1
