use Rattle.std.proofs.Common.{◌∙◌, ap}
use Rattle.ent_protocol.specs.Reached.{named_tables, table_names}
use Rattle.ent_protocol.specs.State.{State}
use Rattle.ent_core.proofs.Booked.{names_declared}
use Rattle.ent_core.proofs.closing.book_parts.Goals as goal

pub returns-clause-database : goal.returns-clause-database
returns-clause-database c =
    let inside = c.store.inside in
    let names = names_declared inside.catalogue.tables inside.opening.tables c.store.invariant.0.declared in
    c.in_ok-database.ensures ∙ (λ i. named_tables (names i) (c.as_slice.ensures.tables i))
    ∙ ap (λ (s : State). named_tables (table_names s.opening) s.tables) c.store.view_is
