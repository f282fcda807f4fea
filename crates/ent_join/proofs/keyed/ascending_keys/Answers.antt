use Rattle.std.proofs.Common.{◌∙◌, ap}
use Rattle.std.proofs.lemmas.Result.{IfOk-weaker}
use Rattle.std.specs.List.{filter, list_all}
use Rattle.ent_lists.specs.Sets as set
use Rattle.ent_value.specs.Value.{row_cmp}
use Rattle.ent_join.specs.Alone.{may_hold_in}
use Rattle.ent_join.specs.Keyed.{keys_under}
use Rattle.ent_join.proofs.Plain.{plain_keys}
use Rattle.ent_join.proofs.keyed.ascending_keys.Goals as goal

pub returns-then-are_classes : goal.returns-then-are_classes
returns-then-are_classes c =
    let columns = c.args.columns.now in
    c.retain_left.ensures
    ∙ plain_keys columns c.args.classes.now (c.are_classes.ensures c.if-are_classes.true) c.requires.classes
    (λ row. list_all (may_hold_in columns row) c.args.tests.now) c.args.rows.items c.requires.rows

pub returns : goal.returns
returns c =
    let columns = c.args.columns.now in
    let keys = c.in_ok-keys_under.ensures
    ∙ (λ i. keys_under columns c.args.classes.now
    (filter (λ row. list_all (may_hold_in columns row) c.args.tests.now) (c.as_slice.ensures.value i))) in
    IfOk-weaker c.ascending.result _ _ (λ sorted is. is ∙ ap (λ ks. set.ascending
    (set.from_list {R = row_cmp} ks)) keys)
    c.ascending.ensures
