use Rattle.std.proofs.Common.{◌∙◌, ap}
use Rattle.ent_protocol.specs.Lookup.{answers_of}
use Rattle.ent_protocol.specs.State.{State}
use Rattle.ent_core.specs.contracts.store.Store.{the_view}
use Rattle.ent_core.proofs.Told.{answers_found, answers_none}
use Rattle.ent_core.proofs.lookup.answers.Goals as goal

pub returns-in-Some : goal.returns-in-Some
returns-in-Some c =
    let s : State = the_view c.store.inside in
    c.answers.ensures ∙ answers_found s c.args.tx c.in-Some.member (c.in-Some.ensures s)
    ∙ ap (λ (x : State). answers_of x c.args.tx) c.store.view_is

pub returns-in-None : goal.returns-in-None
returns-in-None c =
    let s : State = the_view c.store.inside in
    answers_none s c.args.tx (c.in-None.ensures s) ∙ ap (λ (x : State). answers_of x c.args.tx) c.store.view_is
