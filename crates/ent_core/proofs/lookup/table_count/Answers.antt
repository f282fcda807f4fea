use Rattle.std.proofs.Common.{◌∙◌, ap, length, sym, List}
use Rattle.std.proofs.lemmas.List.{length-map}
use Rattle.ent_value.specs.declared.value.Kind.{Kind}
use Rattle.ent_protocol.specs.Reached.{settled}
use Rattle.ent_protocol.specs.State.{State}
use Rattle.ent_protocol_laws.proofs.Undo.{put_length}
use Rattle.ent_core.proofs.lookup.table_count.Goals as goal

pub returns-clause-declared : goal.returns-clause-declared
returns-clause-declared c =
    let inside = c.store.inside in
    c.len.ensures.kinds
    ∙ ap (λ (kinds : List (List Kind)). length kinds) c.store.invariant.0.kinds
    ∙ length-map inside.opening.tables _
    ∙ ap (λ (s : State). length s.opening.tables) c.store.view_is

pub returns-clause-settled : goal.returns-clause-settled
returns-clause-settled c =
    let inside = c.store.inside in
    c.len.ensures.tables
    ∙ sym (put_length inside.tables.changes inside.tables.tables)
    ∙ ap (λ (s : State). length (settled s)) c.store.view_is
