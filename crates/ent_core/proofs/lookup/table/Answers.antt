use Rattle.std.proofs.Common.{◌∙◌, ap}
use Rattle.ent_protocol.specs.Lookup.{present_rows}
use Rattle.ent_protocol.specs.Reached.{table_names}
use Rattle.ent_protocol.specs.State.{State}
use Rattle.ent_core.specs.Kinds.{kinds_of_table, under}
use Rattle.ent_core.proofs.Booked.{names_declared}
use Rattle.ent_core.proofs.Told.{found_in, found_under, rows_under_name}
use Rattle.ent_core.proofs.lookup.table.Goals as goal

pub returns-in-Some-clause-rows : goal.returns-in-Some-clause-rows
returns-in-Some-clause-rows c =
    let inside = c.store.inside in
    let tables = inside.tables.tables in
    let name = c.args.name.now in
    c.table.ensures.rows ∙ ap (found_in tables) c.in-Some.ensures ∙ found_under inside.catalogue.tables tables name
    ∙ (λ i. under (names_declared inside.catalogue.tables inside.opening.tables c.store.invariant.0.declared i) tables
    name)
    ∙ rows_under_name (table_names inside.opening) tables name ∙ ap (λ (s : State). present_rows s name) c.store.view_is

pub returns-in-None-clause-rows : goal.returns-in-None-clause-rows
returns-in-None-clause-rows c =
    let inside = c.store.inside in
    let tables = inside.tables.tables in
    let name = c.args.name.now in
    ap (found_in tables) c.in-None.ensures ∙ found_under inside.catalogue.tables tables name
    ∙ (λ i. under (names_declared inside.catalogue.tables inside.opening.tables c.store.invariant.0.declared i) tables
    name)
    ∙ rows_under_name (table_names inside.opening) tables name ∙ ap (λ (s : State). present_rows s name) c.store.view_is

pub returns-in-Some-clause-kinds : goal.returns-in-Some-clause-kinds
returns-in-Some-clause-kinds c =
    let inside = c.store.inside in
    let kinds = inside.tables.kinds in
    let name = c.args.name.now in
    c.table.ensures.kinds ∙ ap (found_in kinds) c.in-Some.ensures ∙ found_under inside.catalogue.tables kinds name
    ∙ (λ i. under (names_declared inside.catalogue.tables inside.opening.tables c.store.invariant.0.declared i)
    (c.store.invariant.0.kinds i) name)
    ∙ ap (λ (s : State). kinds_of_table s.opening name) c.store.view_is

pub returns-in-None-clause-kinds : goal.returns-in-None-clause-kinds
returns-in-None-clause-kinds c =
    let inside = c.store.inside in
    let kinds = inside.tables.kinds in
    let name = c.args.name.now in
    ap (found_in kinds) c.in-None.ensures ∙ found_under inside.catalogue.tables kinds name
    ∙ (λ i. under (names_declared inside.catalogue.tables inside.opening.tables c.store.invariant.0.declared i)
    (c.store.invariant.0.kinds i) name)
    ∙ ap (λ (s : State). kinds_of_table s.opening name) c.store.view_is
