use Rattle.std.proofs.Common.{◌++◌, ◌-◌, length, take, drop, map, ap, sym, ◌∙◌}
use Rattle.std.proofs.Common.{List, subst, arith}
use Rattle.ent_value.specs.declared.value.Value.{Value}
use Rattle.ent_rel.specs.Numbered.{relation_of}
use Rattle.ent_rel.specs.Relation.{Relation}
use Rattle.ent_tree.specs.declared.operand.Test.{Test}
use Rattle.ent_semantics.specs.declared.operand.Operand.{Operand}
use Rattle.ent_ordinary.specs.Combined.{combined, shown_of, AreNarrowed}
use Rattle.ent_ordinary.specs.Early.{may_meet}
use Rattle.ent_ordinary.specs.Tables.{rows_listed}
use Rattle.ent_ordinary.proofs.Combinations.{one_row_more}
use Rattle.ent_ordinary.proofs.Searched.{all_searched, begins_with, one_row_left}
use Rattle.ent_ordinary.proofs.select.+search.Goals as goal

pub loop-row-preserved-then-may_meet : goal.loop-row-preserved-then-may_meet
loop-row-preserved-then-may_meet t c =
    let select = c.args.select.now in
    let found = c.loop-row.found.items in
    let sources = c.args.sources.now in
    let more = rows_listed (map relation_of (take (length sources - 1) (drop 1 sources))) in
    one_row_more select.items select.tests c.args.front.now more c.loop-row.rows c.next_row.new.self found
    c.search.new.found.items c.in-Some.row c.in-Some.ensures
    (c.in_ok-search-in-len1-up.ensures
    ∙ ap (λ front. found ++ shown_of select.items select.tests (combined front more))
    (c.values.ensures ∙ c.in_ok-begun-in-len1-up.ensures))
    ∙ c.loop-row.invariant

pub loop-row-preserved : goal.loop-row-preserved
loop-row-preserved t c =
    let select = c.args.select.now in
    let row = c.args.front.now ++ c.in-Some.row in
    let sources = c.args.sources.now in
    let more = rows_listed (map relation_of (take (length sources - 1) (drop 1 sources))) in
    let conditions = c.as_slice.ensures ∙ c.deref-in-len1-up.ensures in
    let fails = sym (λ i. may_meet (conditions i) row) ∙ sym (c.in_ok-tests-in-len1-up.ensures.may_meet c.in-Some.row)
    ∙ sym c.may_meet.ensures ∙ c.if-may_meet.false in
    one_row_left select.items select.tests c.args.front.now more c.loop-row.rows c.next_row.new.self
    c.loop-row.found.items c.in-Some.row c.in-Some.ensures fails
    ∙ c.loop-row.invariant

pub returns-in_default : goal.returns-in_default
returns-in_default t c =
    let select = c.args.select.now in
    let front = c.args.front.now in
    let found = c.args.found.now.items in
    let sources = c.args.sources.now in
    let table = relation_of c.source-item-2.result in
    let rows = c.in_ok-rows-in-len1-up.rows in
    let more = take (length sources - 1) (drop 1 sources) in
    let P : List (Test (Operand Value)) → Type 0 =
    λ tests. AreNarrowed tests front c.deref-in-len1-up-3.result.now.rows rows in
    let Q : Relation → Type 0 = λ table. AreNarrowed select.tests front table.rows rows in
    let are : AreNarrowed select.tests front table.rows rows =
    subst Q (c.deref-in-len1-up-3.ensures ∙ c.table-in-len1-up.ensures)
    (subst P (c.as_slice-in-len1-up.ensures ∙ c.deref-in-len1-up-2.ensures) c.in_ok-rows-in-len1-up.ensures) in
    all_searched select.items select.tests front table.rows rows are (rows_listed (map relation_of more)) found
    c.loop-row.found.items c.loop-row.rows c.loop-row.invariant c.in_default.ensures.0
    ∙ ap (λ sources. found
    ++ shown_of select.items select.tests (combined front (rows_listed (map relation_of sources))))
    (sym (begins_with sources c.source-item-2.result (omega arith) c.source-item-2.is))
