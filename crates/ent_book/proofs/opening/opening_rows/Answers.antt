use Rattle.std.proofs.Common.{◌≡◌, ◌∙◌, List, ap, map, arith, subst}
use Rattle.std.specs.Prelude.{IfOk}
use Rattle.std.specs.List.{filter}
use Rattle.std.proofs.lemmas.List.{take_all}
use Rattle.ent_lists.specs.Sets as set
use Rattle.ent_value.specs.Value.{row_cmp}
use Rattle.ent_value.specs.declared.value.Value.{Value}
use Rattle.ent_tree.specs.declared.declaration.OpeningRow.{OpeningRow}
use Rattle.ent_semantics.specs.Database.{row_of, same_name}
use Rattle.ent_book.proofs.opening.opening_rows.Goals as goal

pub returns : goal.returns
returns c =
    let rows = c.as_slice-row-items.result.now in
    let named : List OpeningRow → List (List Value) =
    λ rows. map row_of (filter (λ row. same_name row.table.name c.args.name.now) rows) in
    let all : c.loop-row.rows.items ≡ named c.args.opening.now.rows =
    c.loop-row.invariant
    ∙ ap named (take_all c.loop-row.row-index rows (omega arith))
    ∙ ap named (c.as_slice-row-items.ensures ∙ c.deref.ensures) in
    subst (λ found. IfOk c.ascending.result (λ rows. rows.items ≡ set.ascending (set.from_list {R = row_cmp} found)))
    all c.ascending.ensures
