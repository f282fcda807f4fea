use Rattle.std.proofs.Common.{◌≡◌, subst, ◌∙◌}
use Rattle.std.proofs.lemmas.Result.{IfOk-weaker}
use Rattle.ent_protocol.specs.State.{State}
use Rattle.ent_waits.specs.Quiet.{IsReasonIfAny, state_of}
use Rattle.ent_core.specs.contracts.store.Store.{the_view}
use Rattle.ent_core.proofs.end_run.reason_now.Goals as goal

pub reason_of-requires : goal.reason_of-requires
reason_of-requires c = λ t of_submitted of_active.
    c.store.invariant.0.posted t (of_submitted ∙ c.as_slice.ensures.value) of_active

pub returns : goal.returns
returns c =
    let s : State = the_view c.store.inside in
    let seen : State → State =
    state_of c.store.inside.run c.as_slice.result.now c.as_slice-2.result.now c.as_slice-3.result.now in
    let same : seen s ≡ c.args.store.now =
    (λ i. state_of c.store.inside.run (c.as_slice.ensures.value i) (c.as_slice-2.ensures.value i)
    (c.as_slice-3.ensures i) s)
    ∙ c.store.view_is in
    IfOk-weaker c.reason_of.result (λ reason. (t : State) → IsReasonIfAny (seen t) reason)
    (λ reason. IsReasonIfAny c.args.store.now reason)
    (λ reason holds. subst (λ (t : State). IsReasonIfAny t reason) same (holds s)) c.reason_of.ensures
