use Rattle.std.proofs.Common.{◌≡◌, ◌-◌, ◌∙◌, ap, map, refl, subst, sym, true}
use Rattle.std.specs.Prelude.{slice_get}
use Rattle.ent_value.specs.Value.{kinds_of}
use Rattle.ent_tree.specs.declared.declaration.Column.{Column}
use Rattle.ent_history.specs.Draft.{Draft, last_of}
use Rattle.ent_history.specs.Parts.{Ascends}
use Rattle.ent_report_reader.specs.Due.{TableTakes}
use Rattle.ent_report_reader.proofs.OpeningSteps.{table_takes_if}
use Rattle.ent_report_reader.proofs.draft.Draft.table_takes.Goals as goal

pub returns-then-is_of_kinds : goal.returns-then-is_of_kinds
returns-then-is_of_kinds c =
    let row = c.args.row.now in
    let test = c.is_behind.result in
    let there = sym (c.in-Some.ensures ∙ ap last_of c.as_slice.ensures) in
    let of = ap (λ n. slice_get c.self.inside.opening.tables (n - 1)) (sym c.len.ensures)
    ∙ sym c.in-Some-table.ensures in
    let kinds = ap kinds_of (sym c.values.ensures) ∙ c.if-is_of_kinds.ensures.0 refl
    ∙ ap (map (λ (column : Column). column.kind)) (c.as_slice-2.ensures ∙ c.deref.ensures) in
    subst (λ (d : Draft). (test ≡ true → TableTakes d.told row) × (TableTakes d.told row → test ≡ true))
    c.self.view_is
    (table_takes_if _ row c.in-Some.shown.now c.in-Some-table.create.now test there of kinds
    (subst (λ rs. (test ≡ true → Ascends rs row) × (Ascends rs row → test ≡ true))
    c.as_slice-then-is_of_kinds.ensures c.is_behind.ensures))
