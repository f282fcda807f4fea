use Rattle.std.proofs.Common.{◌≡◌, ◌↔◌, refl, subst}
use Rattle.std.specs.Prelude.{IsTrue}
use Rattle.std.proofs.lemmas.Result.{IfOk-weaker}
use Rattle.ent_protocol.specs.Member.{pool}
use Rattle.ent_protocol.specs.PoolEvents.{IsPresentComponent}
use Rattle.ent_protocol.specs.State.{State}
use Rattle.ent_core.specs.contracts.store.Store.{the_view}
use Rattle.ent_core.proofs.join_answer.is_component.Goals as goal

pub returns : goal.returns
returns c =
    let s : State = the_view c.store.inside in
    let asked = c.args.asked.now in
    IfOk-weaker c.is_present.result
    (λ is. (t : State) → pool t ≡ c.store.inside.pool → IsTrue is ↔ IsPresentComponent t asked)
    (λ is. IsTrue is ↔ IsPresentComponent c.args.store.now asked)
    (λ is told. subst (λ (t : State). IsTrue is ↔ IsPresentComponent t asked) c.store.view_is
    (told s (c.store.invariant.0.posted s refl refl)))
    c.is_present.ensures
