use Rattle.std.proofs.Common.{◌≡◌, List, ◌++◌, map, ap, subst, ◌∙◌}
use Rattle.std.specs.List.{filter}
use Rattle.std.specs.Prelude.{OnOk}
use Rattle.ent_value.specs.declared.value.Value.{Value}
use Rattle.ent_tree.specs.declared.operand.Test.{Test}
use Rattle.ent_semantics.specs.Selection.{meets}
use Rattle.ent_semantics.specs.declared.operand.Operand.{Operand}
use Rattle.ent_ordinary.specs.Combined.{AreNarrowed}
use Rattle.ent_ordinary.specs.Prepared.{prepared_meets}
use Rattle.ent_ordinary.specs.Worth.{worth_over}
use Rattle.ent_ordinary.proofs.Searched.{last_searched}
use Rattle.ent_ordinary.proofs.select.search_last.Goals as goal

pub returns : goal.returns
returns c =
    let select = c.args.select.now in
    let front = c.args.front.now in
    let all = c.args.table.now.rows in
    let rows = c.in_ok-rows.rows in
    let prepared = prepared_meets c.in_ok-tests.tests in
    let conditions = c.as_slice.ensures ∙ c.deref.ensures in
    let P : List (List Value) → Type 0 =
    λ shown. OnOk c.show_rows.result (c.show_rows.new.found.items ≡ c.args.found.now.items ++ shown) in
    let Q : List (Test (Operand Value)) → Type 0 = λ tests. AreNarrowed tests front all rows in
    subst P
    (ap (λ items. map (λ row. map (worth_over (front ++ row)) items) (filter prepared rows)) c.as_slice-3.ensures
    ∙ last_searched select.items select.tests front all rows
    (subst Q (c.as_slice-2.ensures ∙ c.deref-2.ensures) c.in_ok-rows.ensures) prepared
    (λ row. c.in_ok-tests.ensures.meets row ∙ ap (λ tests. meets worth_over tests (front ++ row)) conditions))
    c.show_rows.ensures
