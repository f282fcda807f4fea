use Rattle.std.proofs.Common.{◌≡◌, ◌∙◌, List, Some, ap, refl, subst, sym, slice_get}
use Rattle.std.specs.Prelude.{IsSome}
use Rattle.ent_eval.specs.Result.{alone_seen}
use Rattle.ent_form.specs.declared.fault.FormFault.{FormFault}
use Rattle.ent_protocol.specs.Event as replies
use Rattle.ent_protocol.specs.Finish.{FinishesBy, IsTaken}
use Rattle.ent_protocol.specs.Job.{Fault, Job, Outcome}
use Rattle.ent_protocol.specs.Member.{active_member}
use Rattle.ent_protocol.specs.State.{State}
use Rattle.ent_core.specs.Begin.{IsUnposted}
use Rattle.ent_core.specs.Finish.{CarriesOut}
use Rattle.ent_core.specs.contracts.store.Store.{the_view}
use Rattle.ent_core.proofs.Begun.{kept_with}
use Rattle.ent_core.proofs.Finishing.{advanced_kinds, advanced_pool, has_answer, went_on}
use Rattle.ent_core.proofs.finish.carry_out.Goals as goal

pub returns-in-Ok-clause-ok : goal.returns-in-Ok-clause-ok
returns-in-Ok-clause-ok c =
    let inside = c.store.inside in
    let v : State = the_view inside in
    let single = c.args.single.now in
    let outcome : Outcome = alone_seen c.args.outcome.now in
    let left = c.take.new.self in
    let run = c.advance.new.run in
    let stored = c.advance.new.tables in
    let new : State = record v {
      prepared = run.prepared;
      active = run.active;
      lent = left;
      tables = stored.tables;
      changes = stored.changes;
    } in
    let answer = has_answer single outcome inside.run run inside.tables stored c.in-Ok.ensures.ok in
    let carries : CarriesOut c.args.store.now c.args.index single outcome (replies.Stepped answer.0) new =
    λ job member at there.
    let taken : IsTaken job v.lent left =
    c.take.ensures job (ap (λ (x : State). slice_get x.lent c.args.index) c.store.view_is ∙ at) in
    let is : active_member v single.tx ≡ Some member =
    ap (λ (x : State). active_member x single.tx) c.store.view_is ∙ there in
    let steps = went_on v inside.run run inside.tables stored single member left outcome answer.0 answer.1 refl refl
    refl refl is c.in-Ok.ensures.ok in
    let P : State → Type 0 =
    λ s. (others : List Job) × IsTaken job s.lent others
    × FinishesBy {F = FormFault} (record s { lent = others }) member single.statement outcome
    (replies.Stepped answer.0) new in
    let done : P v = (left, taken, steps) in
    subst P c.store.view_is done in
    (replies.Stepped answer.0, (answer.0, answer.1, refl), carries)

pub returns-in-Err-Fault-clause-ok : goal.returns-in-Err-Fault-clause-ok
returns-in-Err-Fault-clause-ok c =
    let v : State = the_view c.store.inside in
    let single = c.args.single.now in
    let run = c.in-Err-Fault.ensures.err.0 in
    let stored = c.in-Err-Fault.ensures.err.1 in
    let failure = c.in-Err-Fault.failure in
    let refused = c.in-Err-Fault.field-0-is in
    let outcome : alone_seen c.args.outcome.now ≡ Fault failure = c.in-Err-Fault.ensures.failure failure cc in
    let before : State = record v {
      prepared = c.advance.new.run.prepared;
      active = c.advance.new.run.active;
      tables = c.advance.new.tables.tables;
      changes = c.advance.new.tables.changes;
    } in
    let same : before ≡ v = λ i. record v {
      prepared = (run i).prepared;
      active = (run i).active;
      tables = (stored i).tables;
      changes = (stored i).changes;
    } in
    let P : State → Type 0 =
    λ s. CarriesOut s c.args.index single (Fault failure) (replies.Failed failure c.fail-members.result)
    c.fail-members.new.store in
    let Q : Outcome → Type 0 =
    λ o. CarriesOut c.args.store.now c.args.index single o (replies.Failed failure c.fail-members.result)
    c.fail-members.new.store in
    let told : P before = c.fail-members.ensures in (
      replies.Failed failure c.fail-members.result,
      refl,
      subst Q (sym outcome) (subst P (same ∙ c.store.view_is) told),
    )

pub invariant_of-store : goal.invariant_of-store
invariant_of-store c =
    let inside = c.store.inside in
    let single = c.args.single.now in
    let outcome : Outcome = alone_seen c.args.outcome.now in
    let there = subst (λ (x : State). IsSome (active_member x single.tx)) (sym c.store.view_is) c.requires.there in
    let idle = subst (λ (x : State). IsUnposted x single.tx) (sym c.store.view_is) c.requires.unposted in
    let run = c.advance.new.run in
    let stored = c.advance.new.tables in (
      kept_with inside.catalogue.tables inside.opening inside.submitted.items inside.transaction_table
          inside.transaction_table inside.running inside.run run inside.tables stored inside.pool inside.pool
          single.tx c.store.invariant.0 there refl refl
          (advanced_kinds single outcome inside.run run inside.tables stored c.in-Ok.ensures.ok)
          (advanced_pool inside.submitted.items inside.pool single outcome inside.run run inside.tables stored
          c.store.invariant.0.posted c.in-Ok.ensures.ok there idle),
      c.store.invariant.1,
    )
