use Rattle.std.proofs.Common.{◌∙◌, ap, subst, sym, Some}
use Rattle.ent_protocol.specs.Lookup.{Standing, active_standing, standing}
use Rattle.ent_protocol.specs.Lookup as lookups
use Rattle.ent_protocol.specs.State.{State}
use Rattle.ent_headline.specs.Resolved.{resolved_forms}
use Rattle.ent_protocol_laws.specs.Standing.{StandOnce}
use Rattle.ent_core.specs.contracts.store.Store.{the_view}
use Rattle.ent_core.proofs.Whereabouts.{stands_active, stands_dormant, stands_nowhere, stands_prepared}
use Rattle.ent_core.proofs.standing.standing_of.Goals as goal

pub returns-then-is_prepared : goal.returns-then-is_prepared
returns-then-is_prepared c =
    let s : State = the_view c.store.inside in
    let stand = subst StandOnce (sym c.store.view_is)
    (c.transactions_stand_once.ensures.once resolved_forms c.args.store.now c.requires.kept.reached) in
    stands_prepared s c.args.tx stand (sym (c.is_prepared.ensures.prepared s) ∙ c.if-is_prepared.true)
    ∙ ap (λ (x : State). standing x c.args.tx) c.store.view_is

pub returns-in-Some : goal.returns-in-Some
returns-in-Some c =
    let s : State = the_view c.store.inside in
    let stand = subst StandOnce (sym c.store.view_is)
    (c.transactions_stand_once.ensures.once resolved_forms c.args.store.now c.requires.kept.reached) in
    let member = c.in-Some.member in
    let told = c.active_standing.ensures ∙ ap (λ (x : State). active_standing x member) (sym c.store.view_is) in
    ap (λ (x : Standing). Some x) told
    ∙ stands_active s c.args.tx stand (sym (c.is_prepared.ensures.prepared s) ∙ c.if-is_prepared.false) member
    (c.in-Some.ensures s)
    ∙ ap (λ (x : State). standing x c.args.tx) c.store.view_is

pub returns-in-Some-dormant_of : goal.returns-in-Some-dormant_of
returns-in-Some-dormant_of c =
    let s : State = the_view c.store.inside in
    let stand = subst StandOnce (sym c.store.view_is)
    (c.transactions_stand_once.ensures.once resolved_forms c.args.store.now c.requires.kept.reached) in
    ap (λ runs. Some (lookups.Dormant runs)) c.runs.ensures.runs
    ∙ stands_dormant s c.args.tx stand c.in-Some-dormant_of.own.now c.in-Some-dormant_of.ensures
    ∙ ap (λ (x : State). standing x c.args.tx) c.store.view_is

pub returns-in-None : goal.returns-in-None
returns-in-None c =
    let s : State = the_view c.store.inside in
    stands_nowhere s c.args.tx c.in-None.ensures c.in_default-dormant_of.ensures
    (sym (c.is_prepared.ensures.prepared s) ∙ c.if-is_prepared.false) (c.in_default.ensures s)
    ∙ ap (λ (x : State). standing x c.args.tx) c.store.view_is
