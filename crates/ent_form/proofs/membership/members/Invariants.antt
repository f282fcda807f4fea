use Rattle.std.proofs.Common.{◌≡◌, ◌+◌, [], length, map}
use Rattle.std.specs.Slice.Iter.{iter_rest}
use Rattle.std.specs.Iterator.Adapters.{zip_first, zip_second}
use Rattle.ent_form.specs.Bindings.{bound_in}
use Rattle.ent_form.specs.Entangled.{members_from}
use Rattle.ent_form.proofs.membership.members.Given as goal

-- behind those before, the kinds and the terms that are left give what all of them give
abbrev pub invariant-loop-kind : goal.invariant-loop-kind
invariant-loop-kind l =
    (goal.iterator-loop-kind).can_next l.kind-iterator ×
    (goal.iterator-loop-kind).is_finite l.kind-iterator ×
    (members_from (map (λ name. name.now) l.names) (bound_in l.bindings) l.members (bound_in l.kinds)
    (iter_rest (zip_first l.kind-iterator)) (iter_rest (zip_second l.kind-iterator))
    ≡ members_from (map (λ name. name.now) l.names) (bound_in l.bindings) [] (bound_in l.fn.kinds) l.wanted
    l.terms) ×
    (length l.members + length (iter_rest (zip_second l.kind-iterator)) ≡ length l.terms)
