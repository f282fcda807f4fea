use Rattle.std.proofs.Common.{◌≡◌, ◌≤◌, ◌+◌, ◌∙◌, List, Some, None, ap, length, refl, subst, sym, slice_get}
use Rattle.std.specs.List.{AllByRecursion}
use Rattle.std.proofs.lemmas.Option.{same_Some}
use Rattle.ent_tree.specs.declared.limits.TheConstants.{MOST_SCRIPTS}
use Rattle.ent_form.specs.declared.fault.FormFault.{FormFault}
use Rattle.ent_protocol.specs.Event as replies
use Rattle.ent_protocol.specs.Finish.{FinishesBy, IsTaken}
use Rattle.ent_protocol.specs.Job.{Fault, Job}
use Rattle.ent_protocol.specs.Member.{active_member}
use Rattle.ent_protocol.specs.State.{Member, State, members}
use Rattle.ent_headline.specs.Resolved.{resolved_forms}
use Rattle.ent_protocol_laws.specs.Attempts.{AsksForRun, StayWithin}
use Rattle.ent_protocol_laws.specs.Standing.{StandOnce}
use Rattle.ent_core.specs.contracts.store.Store.{the_view}
use Rattle.ent_core.proofs.Begun.{number_found}
use Rattle.ent_core.proofs.Finishing.{failed}
use Rattle.ent_core.proofs.finish.fail.Goals as goal

pub returns-in_default : goal.returns-in_default
returns-in_default c = λ job member at there.
    let v : State = the_view c.store.inside in
    let nobody : None ≡ Some member =
    c.in_default.ensures v ∙ ap (active_member v) c.tx-tx.ensures
    ∙ ap (λ (x : State). active_member x c.args.single.now.tx) c.store.view_is ∙ there in
    absurd cc

pub roll_back-requires-clause-counted : goal.roll_back-requires-clause-counted
roll_back-requires-clause-counted c =
    let C : State → Type 0 = λ s. length s.fates + length s.dormant + length (members s) ≡ length s.submitted in
    subst C (sym c.store.view_is)
    (c.transactions_are_counted.ensures resolved_forms c.args.store.now c.requires.kept.reached)

pub roll_back-requires-clause-within : goal.roll_back-requires-clause-within
roll_back-requires-clause-within c =
    let A : State → Type 0 = λ s. AllByRecursion AsksForRun s.submitted in
    let w : StayWithin (the_view c.store.inside) =
    subst StayWithin (sym c.store.view_is)
    (c.attempts_stay_within.ensures.own resolved_forms c.args.store.now c.requires.kept.reached
    (subst A c.store.view_is c.store.invariant.0.asks)) in
    record { dormant = w.dormant; members = w.members }

pub roll_back-requires-clause-once : goal.roll_back-requires-clause-once
roll_back-requires-clause-once c =
    let w : StandOnce (the_view c.store.inside) =
    subst StandOnce (sym c.store.view_is)
    (c.transactions_stand_once.ensures.once resolved_forms c.args.store.now c.requires.kept.reached) in
    record { distinct = w.distinct; submitted = w.submitted }

pub roll_back-requires-clause-few : goal.roll_back-requires-clause-few
roll_back-requires-clause-few c =
    let F : State → Type 0 = λ s. length s.submitted ≤ MOST_SCRIPTS in
    subst F (sym c.store.view_is)
    (c.scripts_are_few.ensures resolved_forms c.args.store.now c.requires.kept.reached)

pub returns : goal.returns
returns c = λ job member at there.
    let v : State = the_view c.store.inside in
    let single = c.args.single.now in
    let failure = c.args.failure in
    let left = c.take.new.self in
    let now : State = record v { lent = left } in
    let same : Some c.in-Some.member ≡ Some member =
    c.in-Some.ensures v ∙ ap (active_member v) c.tx-tx.ensures
    ∙ ap (λ (x : State). active_member x single.tx) c.store.view_is ∙ there in
    let group : member.group ≡ c.group-group.result =
    sym (c.group-group.ensures ∙ ap (λ (m : Member). m.group) (same_Some c.in-Some.member member same)) in
    let own : member.tx ≡ c.tx-tx.result =
    number_found single.tx c.args.store.now.active member there ∙ sym c.tx-tx.ensures in
    let taken : IsTaken job v.lent left =
    c.take.ensures job (ap (λ (x : State). slice_get x.lent c.args.index) c.store.view_is ∙ at) in
    let P : State → Type 0 =
    λ s. (others : List Job) × IsTaken job s.lent others
    × FinishesBy {F = FormFault} (record s { lent = others }) member single.statement (Fault failure)
    (replies.Failed failure c.roll_back.result) c.roll_back.new.store in
    subst P c.store.view_is
    (failed v now single job member left c.group-group.result c.tx-tx.result failure c.roll_back.result
    c.roll_back.new.store refl taken own group c.roll_back.ensures.group
    c.roll_back.ensures.state)
