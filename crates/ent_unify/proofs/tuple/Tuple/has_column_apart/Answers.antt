use Rattle.std.proofs.Common.{◌<◌, length, get_or, arith}
use Rattle.std.proofs.lemmas.List.{get_or_default}
use Rattle.ent_unify.specs.Tuple.{term_side, tuple_equations}
use Rattle.ent_unify.proofs.Solutions.{other_values_refuted, refuted_at}
use Rattle.ent_unify.proofs.Tuples.{column_at, length-columns}
use Rattle.ent_unify.proofs.tuple.Tuple.has_column_apart.Goals as goal

pub returns-then-are_other_values : goal.returns-then-are_other_values
returns-then-are_other_values c =
    let left = c.args.self in
    let right = c.args.other in
    let ts = left.terms.now in
    let us = right.terms.now in
    let n = c.loop-column.column in
    let t = get_or ts n c.index-self-column.result in
    let u = get_or us n c.index-other-column.result in
    let f = term_side left.member left.kinds.now in
    let g = term_side right.member right.kinds.now in
    let all = length-columns f g ts us c.requires.columns in
    let below : n < length (tuple_equations left right) = omega arith in
    let in_left : n < length ts = omega arith in
    let in_right : n < length us = omega arith in
    λ _. refuted_at (tuple_equations left right) n (f t, g u) below
    (column_at f g ts us n t u _ in_left in_right (get_or_default ts n c.index-self-column.result t in_left)
    (get_or_default us n c.index-other-column.result u in_right))
    (other_values_refuted left.member right.member left.kinds.now right.kinds.now t u
    (c.are_other_values.ensures c.if-are_other_values.true))
