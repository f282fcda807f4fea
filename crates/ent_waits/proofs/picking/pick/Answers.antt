use Rattle.std.proofs.Common.{◌≡◌, ◌∙◌, ℕ, List, Option, Some, sym, ap, subst}
use Rattle.ent_semantics.specs.Pool.{Posted}
use Rattle.ent_match.specs.Components.{AreFirstPlaces, component_at}
use Rattle.ent_waits.specs.Component.{IsPick}
use Rattle.ent_waits.specs.Open.{IsFirstOpen, NoneIsOpen}
use Rattle.ent_waits.proofs.Picked.{picked_at, picked_none}
use Rattle.ent_waits.proofs.picking.pick.Goals as goal

pub first_open-requires : goal.first_open-requires
first_open-requires c =
    subst (AreFirstPlaces c.members-members.result.now) (sym c.as_slice.ensures.value)
    (subst (λ (pool : List Posted). AreFirstPlaces pool c.in_ok-firsts.firsts.items)
    (sym c.members-members.ensures.members)
    c.in_ok-firsts.ensures)

pub component_at-requires : goal.component_at-requires
component_at-requires c =
    subst (AreFirstPlaces c.members-members.result.now) (sym c.as_slice-in-Some.ensures.value)
    (subst (λ (pool : List Posted). AreFirstPlaces pool c.in_ok-firsts.firsts.items)
    (sym c.members-members.ensures.members)
    c.in_ok-firsts.ensures)

pub returns-in-Some : goal.returns-in-Some
returns-in-Some c =
    let pool = c.args.pool.now in
    let tried = c.args.tried.now in
    let lent = c.args.lent.now in
    let firsts = c.in_ok-firsts.firsts.items in
    let place = c.in-Some.place in
    let first = subst (λ (xs : List Posted). IsFirstOpen xs firsts tried lent place) c.members-members.ensures.members
    (subst (λ (fs : List (Option ℕ)). IsFirstOpen c.members-members.result.now fs tried lent place)
    c.as_slice.ensures.value
    c.in-Some.ensures) in
    let picked : c.in_ok-picked-in-Some.picked ≡ component_at firsts place pool =
    c.in_ok-picked-in-Some.ensures
    ∙ (ap (λ (fs : List (Option ℕ)). component_at fs place c.members-members.result.now)
    c.as_slice-in-Some.ensures.value
    ∙ ap (component_at firsts place) c.members-members.ensures.members) in
    subst (λ (asked : List Posted). IsPick pool tried lent (Some asked)) (sym picked)
    (picked_at c.components_are_classes.ensures pool c.members-members.ensures.by_number firsts
    c.in_ok-firsts.ensures tried
    lent place first)

pub returns : goal.returns
returns c =
    let pool = c.args.pool.now in
    let tried = c.args.tried.now in
    let lent = c.args.lent.now in
    let firsts = c.in_ok-firsts.firsts.items in
    let none = subst (λ (xs : List Posted). NoneIsOpen xs firsts tried lent) c.members-members.ensures.members
    (subst (λ (fs : List (Option ℕ)). NoneIsOpen c.members-members.result.now fs tried lent) c.as_slice.ensures.value
    c.in-None.ensures) in
    picked_none c.components_are_classes.ensures pool c.members-members.ensures.by_number firsts
    c.in_ok-firsts.ensures tried
    lent none
