use Rattle.std.proofs.Common.{◌≡◌, ◌∙◌, ℕ, Option, Some, None, ap, refl, subst, sym}
use Rattle.ent_members.specs.declared.conflict.Conflict.{Conflict}
use Rattle.ent_protocol.specs.Lookup.{member_of}
use Rattle.ent_protocol.specs.Member.{active_member}
use Rattle.ent_protocol.specs.State.{State, Member}
use Rattle.ent_core.specs.Obstacle.{BetweenMembers, IsBetween}
use Rattle.ent_core.specs.contracts.store.Store.{the_view}
use Rattle.ent_core.proofs.obstacle.conflict_between.Goals as goal

-- what holds of two members, or of none, holds of their numbers
of_members : (s : State) (asker holder : ℕ) (between : Option Conflict) (first second : Option Member)
    → active_member s asker ≡ first → member_of s holder ≡ second → BetweenMembers s between first second
    → IsBetween s asker holder between
of_members s asker holder between first second one other is =
    subst (λ o. BetweenMembers s between o (member_of s holder)) (sym one)
    (subst (λ o. BetweenMembers s between first o) (sym other) is)

pub returns-in-Some-member : goal.returns-in-Some-member
returns-in-Some-member c =
    let s : State = the_view c.store.inside in
    let member = c.in-Some.member in
    let other = c.in-Some-member.other in
    of_members c.args.store.now c.args.asker c.args.holder c.conflict_of.result (Some member) (Some other)
    (ap (λ (x : State). active_member x c.args.asker) (sym c.store.view_is) ∙ sym (c.in-Some.ensures s))
    (ap (λ (x : State). member_of x c.args.holder) (sym c.store.view_is) ∙ sym (c.in-Some-member.ensures s))
    c.conflict_of.ensures

pub returns-in-None-member : goal.returns-in-None-member
returns-in-None-member c =
    let s : State = the_view c.store.inside in
    let member = c.in-Some.member in
    of_members c.args.store.now c.args.asker c.args.holder None (Some member) None
    (ap (λ (x : State). active_member x c.args.asker) (sym c.store.view_is) ∙ sym (c.in-Some.ensures s))
    (ap (λ (x : State). member_of x c.args.holder) (sym c.store.view_is) ∙ sym (c.in-None-member.ensures s))
    refl

pub returns-in-None : goal.returns-in-None
returns-in-None c =
    let s : State = the_view c.store.inside in
    of_members c.args.store.now c.args.asker c.args.holder None None (member_of c.args.store.now c.args.holder)
    (ap (λ (x : State). active_member x c.args.asker) (sym c.store.view_is) ∙ sym (c.in-None.ensures s)) refl refl
