use Rattle.std.proofs.Common.{◌∙◌, ap, map}
use Rattle.ent_unify.specs.Unifier.{kinds_seen}
use Rattle.ent_plan.proofs.Planning.{planned}
use Rattle.ent_plan.proofs.join_plan.slots_of.Goals as goal

pub returns : goal.returns
returns c =
    let unifier = rw c.in-Some.is at c.in_ok-unifier.ensures in
    planned c.args.members.now (kinds_seen c.as_slice-2.result.now)
    (ap kinds_seen c.as_slice-2.ensures.value ∙ c.in_ok-variable_kinds.ensures) c.in-Some.unifier
    c.rows_of.new.classes.items c.in_ok-slots.slots.items c.in_ok-kinds.kinds.items unifier c.in_ok-slots.ensures
    (c.in_ok-kinds.ensures ∙ ap (map (λ class. class.first.kind)) c.as_slice-3.ensures.value)
