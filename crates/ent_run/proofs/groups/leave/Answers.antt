use Rattle.std.proofs.Common.{ℕ, refl, sym, subst, List}
use Rattle.std.specs.Prelude.{Option, Some, None, filter, not}
use Rattle.ent_group.specs.declared.groups.Membership.{Membership}
use Rattle.ent_run.specs.Grouped.{AreGrouped}
use Rattle.ent_members.specs.RunAttempts.{is_within}
use Rattle.ent_run.proofs.Grouped.{grouped_left, grouped_none}
use Rattle.ent_run.proofs.groups.leave.Goals as goal

pub returns-in-Some : goal.returns-in-Some
returns-in-Some c = λ members grouped.
    subst (λ (group : Option ℕ). AreGrouped c.remove_labelled.new.groups
    (filter (λ member. not (is_within group member)) members)) (sym c.in-Some.is)
    (grouped_left c.in-Some.label c.args.groups.now c.remove_labelled.new.groups c.remove_labelled.ensures
    (λ member. not (is_within (Some c.in-Some.label) member)) members (λ m there. refl) grouped)

pub returns-in-None : goal.returns-in-None
returns-in-None c = λ members grouped.
    subst (λ (group : Option ℕ). AreGrouped c.new.result
    (filter (λ member. not (is_within group member)) members)) (sym c.in-None.is)
    (subst (λ (groups : List Membership). AreGrouped groups (filter (λ member. not (is_within None member)) members))
    (sym c.new.ensures) (grouped_none (λ member. not (is_within None member)) members (λ m there. refl)))
