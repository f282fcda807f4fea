use Rattle.std.proofs.Common.{◌≤◌, [], arith}
use Rattle.ent_join.specs.Index.{begun_cmp}
use Rattle.ent_join.proofs.Between.{between, in_order_of_points}
use Rattle.ent_join.proofs.index.rows_between.Goals as goal

pub slice_bounds-result-count : goal.slice_bounds-result-count
slice_bounds-result-count c =
    in_order_of_points (begun_cmp c.args.beginning.now c.args.classes.now) c.args.rows.now c.count_before-start.result
    c.count_up_to-end.result (λ k d h. c.count_before-start.ensures.point.0 k d (omega arith) h)
    c.count_up_to-end.ensures.point.1 c.count_before-start.ensures.within []

pub slice_bounds-result-start : goal.slice_bounds-result-start
slice_bounds-result-start c =
    let k : c.count_before-start.result ≤ c.count_up_to-end.result =
    in_order_of_points (begun_cmp c.args.beginning.now c.args.classes.now) c.args.rows.now c.count_before-start.result
    c.count_up_to-end.result (λ k d h. c.count_before-start.ensures.point.0 k d (omega arith) h)
    c.count_up_to-end.ensures.point.1 c.count_before-start.ensures.within [] in
    omega arith

pub returns : goal.returns
returns c =
    between (begun_cmp c.args.beginning.now c.args.classes.now) c.args.rows.now c.count_before-start.result
    c.count_up_to-end.result (λ k d h. c.count_before-start.ensures.point.0 k d (omega arith) h)
    c.count_before-start.ensures.point.1 (λ k d h. c.count_up_to-end.ensures.point.0 k d (omega arith) h)
    c.count_up_to-end.ensures.point.1 c.count_before-start.ensures.within c.count_up_to-end.ensures.within
