use Rattle.std.proofs.Common.{ap, subst, ◌∙◌, List}
use Rattle.std.specs.List.{filter}
use Rattle.ent_lists.specs.Sets as set
use Rattle.ent_value.specs.declared.value.Value.{Value}
use Rattle.ent_rel.specs.First.{has_first}
use Rattle.ent_rel.specs.Part.{IsPart}
use Rattle.ent_rel.proofs.Found.{filter_both, part_filter, found_computes, ok_then}
use Rattle.ent_rel.proofs.table.Table.matches.Goals as goal

pub returns-clause-passing : goal.returns-clause-passing
returns-clause-passing g c = λ passes computes.
    let s = c.args.self.now.rows in
    let first = has_first c.args.values.now in
    let found = c.in_ok-look_up.field-0 in
    ok_then _ _ c.matches.result
    (λ rows is. is ∙ ap (filter passes) c.in_ok-look_up.ensures ∙ filter_both first passes (set.ascending s))
    (c.matches.ensures.passing passes (found_computes g.F.Fn c.args.test s first passes found c.in_ok-look_up.ensures
    computes))

pub returns-clause-part : goal.returns-clause-part
returns-clause-part g c =
    let s = c.args.self.now.rows in
    ok_then _ _ c.matches.result
    (λ rows is.
    let P : List (List Value) → Type 0 = λ whole. IsPart whole rows.items in
    part_filter (has_first c.args.values.now) (set.ascending s) rows.items (subst P c.in_ok-look_up.ensures is))
    c.matches.ensures.part
