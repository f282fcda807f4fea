use Rattle.std.proofs.Common.{◌≡◌, ◌<◌, length, map, ap, ◌∙◌, arith}
use Rattle.std.specs.Arc.{arc_value}
use Rattle.std.specs.Prelude.{slice_index_or}
use Rattle.std.proofs.lemmas.List.{length-map, map-set}
use Rattle.ent_rel.specs.Change.{changed_rows}
use Rattle.ent_rel.specs.Relation.{Relation}
use Rattle.ent_ordinary.specs.Tables.{kinds_in, no_table, rows_in}
use Rattle.ent_check.proofs.Ordinary.{set_kinds, set_rows}
use Rattle.ent_check.proofs.statement.change.Goals as goal

pub returns-clause-rows : goal.returns-clause-rows
returns-clause-rows c =
    let items = c.args.tables.now.items in
    let removed = c.args.delta.now.removed in
    let added = c.args.delta.now.added in
    let at : slice_index_or (map arc_value c.as_slice.result.now) c.args.number no_table
    ≡ slice_index_or (map arc_value items) c.args.number no_table =
    λ i. slice_index_or (map arc_value (c.as_slice.ensures.value i)) c.args.number no_table in
    ap rows_in (map-set arc_value items c.args.number c.in_ok-changed.changed)
    ∙ set_rows (map arc_value items) c.args.number (arc_value c.in_ok-changed.changed) removed added
    (c.in_ok-changed.ensures.rows ∙ ap (λ (t : Relation). changed_rows t.rows removed added) at)

pub returns-clause-kinds : goal.returns-clause-kinds
returns-clause-kinds c =
    let items = c.args.tables.now.items in
    let at : slice_index_or (map arc_value c.as_slice.result.now) c.args.number no_table
    ≡ slice_index_or (map arc_value items) c.args.number no_table =
    λ i. slice_index_or (map arc_value (c.as_slice.ensures.value i)) c.args.number no_table in
    let below : c.args.number < length (map arc_value items) =
    omega (arith, c.requires.within, length-map items arc_value) in
    ap kinds_in (map-set arc_value items c.args.number c.in_ok-changed.changed)
    ∙ set_kinds (map arc_value items) c.args.number (arc_value c.in_ok-changed.changed) c.args.delta.now.removed
    c.args.delta.now.added below (c.in_ok-changed.ensures.kinds ∙ ap (λ (t : Relation). t.kinds) at)
