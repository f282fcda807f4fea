use Rattle.std.proofs.Common.{◌≡◌, ◌∙◌, sym, subst}
use Rattle.std.proofs.lemmas.Result.{IfOk-weaker}
use Rattle.std.specs.List.{filter, list_all}
use Rattle.std.specs.List.Sorted.{IsStrictlySortedBy}
use Rattle.std.specs.Ordering.{nat_cmp}
use Rattle.ent_lists.specs.Sets as set
use Rattle.ent_value.specs.Value.{row_cmp}
use Rattle.ent_rel.proofs.Keyed.{elements_ascend}
use Rattle.ent_join.specs.Alone.{is_left, may_hold_in}
use Rattle.ent_join.specs.Index.{IsIndexed}
use Rattle.ent_join.specs.Keyed.{ascending_classes, class_numbers, index_under, keys_under}
use Rattle.ent_join.proofs.Keys.{index_is}
use Rattle.ent_join.proofs.keyed.index_of.Goals as goal

pub ascending_keys-requires-clause-rows : goal.ascending_keys-requires-clause-rows
ascending_keys-requires-clause-rows c = subst (IsStrictlySortedBy row_cmp) (sym c.into_vec-rows.ensures) c.requires

pub ascending_keys-requires-clause-classes : goal.ascending_keys-requires-clause-classes
ascending_keys-requires-clause-classes c =
    subst (IsStrictlySortedBy nat_cmp) (sym (c.as_slice-2.ensures.value ∙ c.in_ok-classes.ensures))
    (elements_ascend nat_cmp (set.from_list (class_numbers c.args.columns.now)))

pub new-requires : goal.new-requires
new-requires c =
    let columns = c.args.columns.now in
    let rows = filter (is_left c.args.tests.now columns) c.args.rows in
    let classes : c.from_vec.result ≡ ascending_classes columns = c.from_vec.ensures ∙ c.in_ok-classes.ensures in
    let keys : c.from_vec-2.result ≡ (index_under columns rows).rows =
    c.from_vec-2.ensures ∙ c.in_ok-keys.ensures
    ∙ (λ i. set.ascending (set.from_list {R = row_cmp}
    (keys_under columns ((c.as_slice-2.ensures.value ∙ c.in_ok-classes.ensures) i)
    (filter (λ row. list_all (may_hold_in columns row) ((c.as_slice.ensures.value ∙ c.in_ok-own.ensures) i))
    (c.into_vec-rows.ensures i))))) in
    let same : record { classes = c.from_vec.result; rows = c.from_vec-2.result } ≡ index_under columns rows =
    λ i. record { classes = classes i; rows = keys i } in
    subst IsIndexed (sym same) (index_is columns rows).indexed

pub returns : goal.returns
returns c =
    let columns = c.args.columns.now in
    let rows = filter (is_left c.args.tests.now columns) c.args.rows in
    let classes : c.from_vec.result ≡ ascending_classes columns = c.from_vec.ensures ∙ c.in_ok-classes.ensures in
    let keys : c.from_vec-2.result ≡ (index_under columns rows).rows =
    c.from_vec-2.ensures ∙ c.in_ok-keys.ensures
    ∙ (λ i. set.ascending (set.from_list {R = row_cmp}
    (keys_under columns ((c.as_slice-2.ensures.value ∙ c.in_ok-classes.ensures) i)
    (filter (λ row. list_all (may_hold_in columns row) ((c.as_slice.ensures.value ∙ c.in_ok-own.ensures) i))
    (c.into_vec-rows.ensures i))))) in
    IfOk-weaker c.new.result _ _ (λ index is. is ∙ (λ i. record { classes = classes i; rows = keys i })) c.new.ensures
