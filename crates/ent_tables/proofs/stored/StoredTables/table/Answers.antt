use Rattle.std.proofs.Common.{◌∙◌, ap, Some, List, map, slice_get}
use Rattle.std.specs.Arc.{arc_value}
use Rattle.ent_rel.specs.Relation.{Relation}
use Rattle.ent_ordinary.specs.Tables.{kinds_in, rows_in}
use Rattle.ent_tables.specs.Stored.{Stored}
use Rattle.ent_tables.proofs.Places.{past_all, there_at}
use Rattle.ent_tables.proofs.stored.StoredTables.table.Goals as goal

pub returns-in-Some-clause-rows : goal.returns-in-Some-clause-rows
returns-in-Some-clause-rows c =
    let found = c.in-Some.ensures.lookup in
    ap (λ (t : Relation). Some t.rows) c.deref-in-Some.ensures
    ∙ there_at arc_value (λ (t : Relation). t.rows) c.deref.result.now c.args.number c.in-Some.table.now found.3.0
    found.1
    ∙ ap (λ (arcs : List _). slice_get (rows_in (map arc_value arcs)) c.args.number) c.deref.ensures.value
    ∙ ap (λ (s : Stored). slice_get s.tables c.args.number) c.self.view_is

pub returns-in-Some-clause-kinds : goal.returns-in-Some-clause-kinds
returns-in-Some-clause-kinds c =
    let found = c.in-Some.ensures.lookup in
    ap (λ (t : Relation). Some t.kinds) c.deref-in-Some.ensures
    ∙ there_at arc_value (λ (t : Relation). t.kinds) c.deref.result.now c.args.number c.in-Some.table.now found.3.0
    found.1
    ∙ ap (λ (arcs : List _). slice_get (kinds_in (map arc_value arcs)) c.args.number) c.deref.ensures.value
    ∙ ap (λ (s : Stored). slice_get s.kinds c.args.number) c.self.view_is

pub returns-in-None-clause-rows : goal.returns-in-None-clause-rows
returns-in-None-clause-rows c =
    past_all arc_value (λ (t : Relation). t.rows) c.deref.result.now c.args.number c.in-None.ensures.lookup.3
    ∙ ap (λ (arcs : List _). slice_get (rows_in (map arc_value arcs)) c.args.number) c.deref.ensures.value
    ∙ ap (λ (s : Stored). slice_get s.tables c.args.number) c.self.view_is

pub returns-in-None-clause-kinds : goal.returns-in-None-clause-kinds
returns-in-None-clause-kinds c =
    past_all arc_value (λ (t : Relation). t.kinds) c.deref.result.now c.args.number c.in-None.ensures.lookup.3
    ∙ ap (λ (arcs : List _). slice_get (kinds_in (map arc_value arcs)) c.args.number) c.deref.ensures.value
    ∙ ap (λ (s : Stored). slice_get s.kinds c.args.number) c.self.view_is
