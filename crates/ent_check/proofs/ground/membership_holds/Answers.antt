use Rattle.std.proofs.Common.{◌≡◌, map, slice_index_or, sym, ap, ◌∙◌}
use Rattle.std.specs.Arc.{arc_value}
use Rattle.ent_lists.specs.Sets as set
use Rattle.ent_rel.specs.Numbered.{relation_of}
use Rattle.ent_semantics.specs.Form.{term_worth}
use Rattle.ent_ordinary.specs.Tables.{rows_in}
use Rattle.ent_ordinary.specs.Worth.{itself}
use Rattle.ent_check.specs.Shown.{is_shown}
use Rattle.ent_check.proofs.ground.membership_holds.Goals as goal

pub returns : goal.returns
returns c =
    let membership = c.args.membership.now in
    let tables = rows_in (map arc_value c.args.tables.now) in
    let row = map (term_worth itself c.args.grounding.now) membership.terms in
    let rows = rows_in (map relation_of c.as_slice-2.result.now) in
    let own : rows ≡ map (λ number. slice_index_or tables number set.empty) membership.select.sources =
    ap (λ xs. rows_in (map relation_of xs)) c.as_slice-2.ensures.value
    ∙ c.in_ok-sources.ensures
    ∙ ap (map (λ number. slice_index_or tables number set.empty)) (c.as_slice.ensures ∙ c.deref.ensures) in
    c.is_among.ensures _ (c.as_slice-3.ensures ∙ c.in_ok-rows.ensures)
    ∙ ap (is_shown c.in_ok-select.select rows) (sym c.values.ensures)
    ∙ c.in_ok-select.ensures.holds rows
    ∙ ap (is_shown membership.select rows) (c.values.ensures ∙ c.in_ok-row.ensures)
    ∙ ap (λ sources. is_shown membership.select sources row) own
