use Rattle.std.proofs.Common.{◌≡◌, ◌<◌, true, false, length, map, sym, ap, subst, ◌∙◌, arith, rules, IfOk, []}
use Rattle.std.proofs.lemmas.List.{length-map}
use Rattle.std.specs.Arc.{arc_value}
use Rattle.ent_value.specs.Order.{rows_total, exact_rows}
use Rattle.ent_value.specs.Value.{row_cmp}
use Rattle.ent_lists.specs.Sets as set
use Rattle.ent_lists.specs.Laws.{ascending-from_list}
use Rattle.ent_ordinary.specs.Tables.{rows_in}
use Rattle.ent_semantics.specs.Database.{Rows, same_name}
use Rattle.ent_check.proofs.Found.{NamedBehind, named_here, named_later, named_nowhere}
use Rattle.ent_check.proofs.Places.{rows_at, rows_many}
use Rattle.ent_check.proofs.table.rows_named.Goals as goal

pub returns-then-named : goal.returns-then-named
returns-then-named c =
    let tables = rows_in (map arc_value c.args.tables.now) in
    let low : c.loop-index.index < length c.args.creates.now = grind (arith, rules) in
    let same : length tables ≡ length c.args.creates.now =
    rows_many (map arc_value c.args.tables.now) ∙ length-map c.args.tables.now arc_value ∙ c.requires in
    let is : same_name c.index-creates-index.result.name.name c.args.name.now ≡ true = grind (arith, rules) in
    let named = named_here c.args.creates.now tables c.args.name.now c.loop-index.index c.index-creates-index.result
    set.empty low same c.index-creates-index.is is c.loop-index.invariant in
    let there : Rows → Type 0 = λ rows. IfOk c.rows_at.result (λ made. made.items ≡ set.ascending rows) in
    subst there (rows_at (map arc_value c.args.tables.now) c.loop-index.index ∙ sym named) c.rows_at.ensures

pub loop-index-preserved : goal.loop-index-preserved
loop-index-preserved c =
    let tables = rows_in (map arc_value c.args.tables.now) in
    let low : c.loop-index.index < length c.args.creates.now = grind (arith, rules) in
    let same : length tables ≡ length c.args.creates.now =
    rows_many (map arc_value c.args.tables.now) ∙ length-map c.args.tables.now arc_value ∙ c.requires in
    let is : same_name c.index-creates-index.result.name.name c.args.name.now ≡ false = grind (arith, rules) in
    named_later c.args.creates.now tables c.args.name.now c.loop-index.index c.index-creates-index.result low same
    c.index-creates-index.is is c.loop-index.invariant

pub returns : goal.returns
returns c =
    let tables = rows_in (map arc_value c.args.tables.now) in
    let same : length tables ≡ length c.args.creates.now =
    rows_many (map arc_value c.args.tables.now) ∙ length-map c.args.tables.now arc_value ∙ c.requires in
    let whole : c.loop-index.index ≡ length c.args.creates.now = grind (arith, rules) in
    let none : set.ascending (set.empty {R = row_cmp}) ≡ [] = ascending-from_list rows_total exact_rows [] tt in
    c.new.ensures.items
    ∙ sym (ap set.ascending (named_nowhere c.args.creates.now tables c.args.name.now same
    (subst (NamedBehind c.args.creates.now tables c.args.name.now) whole c.loop-index.invariant))
    ∙ none)
