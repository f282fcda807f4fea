use Rattle.std.proofs.Common.{◌≡◌, ◌∙◌, ap, map}
use Rattle.std.specs.Arc.{arc_value}
use Rattle.std.specs.Prelude.{slice_index_or}
use Rattle.std.proofs.lemmas.List.{map-set}
use Rattle.ent_rel.specs.Relation.{Relation}
use Rattle.ent_protocol.specs.Job.{applied}
use Rattle.ent_ordinary.specs.Tables.{no_table}
use Rattle.ent_tables.proofs.Changing.{change_is_made, change_is_noted, change_is_undone}
use Rattle.ent_tables.proofs.stored.StoredTables.change.Goals as goal

pub invariant_of-self-2 : goal.invariant_of-self-2
invariant_of-self-2 c =
    let arcs = c.self.inside.tables.items in
    let at : slice_index_or (map arc_value c.as_slice-tables.result.now) c.args.table no_table ≡ slice_index_or
    (map arc_value arcs) c.args.table no_table =
    λ i. slice_index_or (map arc_value (c.as_slice-tables.ensures.value i)) c.args.table no_table in
    change_is_noted (map arc_value arcs) _ c.self.inside.log c.note.new.self c.args.self.now c.args.tx c.args.table
    (arc_value c.in_ok-changed.changed) (arc_value c.in_ok-before.before) c.self.view_is c.requires.within
    (map-set arc_value arcs c.args.table c.in_ok-changed.changed) c.in_ok-note.ensures.ok (c.in_ok-before.ensures ∙ at)
    (c.in_ok-changed.ensures.kinds ∙ ap (λ (t : Relation). t.kinds) at) c.self.invariant

pub returns-clause-ok : goal.returns-clause-ok
returns-clause-ok c =
    let arcs = c.self.inside.tables.items in
    let at : slice_index_or (map arc_value c.as_slice-tables.result.now) c.args.table no_table ≡ slice_index_or
    (map arc_value arcs) c.args.table no_table =
    λ i. slice_index_or (map arc_value (c.as_slice-tables.ensures.value i)) c.args.table no_table in
    change_is_made (map arc_value arcs) _ c.self.inside.log c.note.new.self c.args.self.now c.args.tx c.args.table
    (arc_value c.in_ok-changed.changed) (arc_value c.in_ok-before.before) c.self.view_is c.requires.within
    (map-set arc_value arcs c.args.table c.in_ok-changed.changed) c.in_ok-note.ensures.ok (c.in_ok-before.ensures ∙ at)
    (c.in_ok-changed.ensures.kinds ∙ ap (λ (t : Relation). t.kinds) at)
    c.args.delta.now.removed c.args.delta.now.added
    (c.in_ok-changed.ensures.rows
    ∙ ap (λ (t : Relation). applied c.args.delta.now.removed c.args.delta.now.added t.rows) at)

pub returns-clause-undone : goal.returns-clause-undone
returns-clause-undone c =
    let arcs = c.self.inside.tables.items in
    let at : slice_index_or (map arc_value c.as_slice-tables.result.now) c.args.table no_table ≡ slice_index_or
    (map arc_value arcs) c.args.table no_table =
    λ i. slice_index_or (map arc_value (c.as_slice-tables.ensures.value i)) c.args.table no_table in
    change_is_undone (map arc_value arcs) _ c.self.inside.log c.note.new.self c.args.self.now c.args.tx c.args.table
    (arc_value c.in_ok-changed.changed) (arc_value c.in_ok-before.before) c.self.view_is c.requires.within
    (map-set arc_value arcs c.args.table c.in_ok-changed.changed) c.in_ok-note.ensures.ok (c.in_ok-before.ensures ∙ at)
    (c.in_ok-changed.ensures.kinds ∙ ap (λ (t : Relation). t.kinds) at)
