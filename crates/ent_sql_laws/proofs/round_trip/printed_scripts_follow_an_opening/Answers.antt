use Rattle.std.proofs.Common.{[], ◌∷◌, arith}
use Rattle.std.proofs.lemmas.List.Elements.{All-contains_itself}
use Rattle.ent_sql_laws.specs.Following.{WasRead}
use Rattle.ent_sql_laws.proofs.Keeping.{each_at}
use Rattle.ent_sql_laws.proofs.Following.{alone_behind}
use Rattle.ent_sql_laws.proofs.round_trip.printed_scripts_follow_an_opening.Goals as goal

pub returns-clause-script : goal.returns-clause-script
returns-clause-script c = λ front text opening input script first is held.
    let found = c.printed_scripts_follow.ensures front (record { opening = opening; scripts = [] }) (script ∷ []) first
    (each_at WasRead (script ∷ []) ((text, input, is, held), tt)) (omega arith) in
    (found.0, found.1, alone_behind opening (script ∷ []) found.0 found.2)

pub returns-clause-input : goal.returns-clause-input
returns-clause-input c = λ front text opening input first is.
    let few = c.read_scripts_can_be_printed.ensures.limit text input is in
    let found = c.printed_scripts_follow.ensures front (record { opening = opening; scripts = [] }) input.scripts first
    (λ k d lt. (text, input, is, All-contains_itself input.scripts k d lt)) (omega arith) in
    (found.0, found.1, alone_behind opening input.scripts found.0 found.2)
