use Rattle.std.proofs.Common.{◌≡◌, ◌+◌, ◌<◌, length, [], drop, ap, sym, ◌∙◌, arith}
use Rattle.std.proofs.lemmas.List.{drop_all}
use Rattle.std.proofs.lemmas.Bool.Decides.{nat_tests}
use Rattle.ent_page.specs.Key.{key_of, key_cmp}
use Rattle.ent_lists.specs.Elements.{from_here}
use Rattle.ent_page.proofs.Fronts.{value_step, not_nil}
use Rattle.ent_page.proofs.probe.compare.Goals as goal

pub loop-value-preserved : goal.loop-value-preserved
loop-value-preserved c =
    let i = c.loop-value.value-index in
    let vs = c.args.values.now in
    value_step c.loop-value.left.now c.in-Ok.rest.now c.value-item.result (drop (i + 1) vs) _ c.in-Ok.ensures
    (ap (λ z. key_cmp c.loop-value.left.now (key_of z))
    (sym (from_here vs i c.value-item.result (omega arith) c.value-item.is)) ∙ c.loop-value.invariant)

pub returns-else-is_empty : goal.returns-else-is_empty
returns-else-is_empty c =
    let none : drop c.loop-value.value-index c.args.values.now ≡ [] =
    drop_all c.loop-value.value-index c.args.values.now (omega arith) in
    let some : 0 < length c.loop-value.left.now = grind (arith, nat_tests) in
    not_nil c.loop-value.left.now some ∙ ap (λ z. key_cmp c.loop-value.left.now (key_of z)) (sym none)
    ∙ c.loop-value.invariant
