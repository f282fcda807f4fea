use Rattle.std.proofs.Common.{◌≡◌, ◌∙◌, List, ap}
use Rattle.ent_lists.specs.Sets as set
use Rattle.ent_tree.specs.declared.declaration.Create.{Create}
use Rattle.ent_semantics.specs.Database.{opening_database}
use Rattle.ent_book.specs.Report2.{declared_columns}
use Rattle.ent_book.proofs.Ascending.{count_of_ascending}
use Rattle.ent_book.proofs.opening.append_opening_table.Goals as goal

pub returns : goal.returns
returns c =
    let opening = c.args.opening.now in
    let rows = opening_database opening c.args.name.now in
    let columns : c.declared_columns-columns.result.now ≡ declared_columns opening.tables c.args.name.now =
    c.declared_columns-columns.ensures
    ∙ ap (λ (creates : List Create). declared_columns creates c.args.name.now)
    (c.as_slice.ensures ∙ c.deref.ensures) in
    let listed : c.as_slice-2.result.now ≡ set.ascending rows =
    c.as_slice-2.ensures.value ∙ c.in_ok-rows.ensures in
    rw (← count_of_ascending rows) (rw (← listed) (rw (← columns) c.append_listed.ensures))
