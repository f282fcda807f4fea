use Rattle.std.proofs.Common.{◌∙◌, ap}
use Rattle.ent_protocol.specs.Lookup.{group_of}
use Rattle.ent_protocol.specs.Rollback.{group_numbers}
use Rattle.ent_protocol.specs.State.{State}
use Rattle.ent_core.specs.contracts.store.Store.{the_view}
use Rattle.ent_core.proofs.Told.{group_found, group_none}
use Rattle.ent_core.proofs.lookup.group.Goals as goal

pub returns-in-Some : goal.returns-in-Some
returns-in-Some c =
    let s : State = the_view c.store.inside in
    c.group_numbers.ensures s ∙ ap (group_numbers s) c.group.ensures
    ∙ group_found s c.args.tx c.in-Some.member (c.in-Some.ensures s)
    ∙ ap (λ (x : State). group_of x c.args.tx) c.store.view_is

pub returns-in-None : goal.returns-in-None
returns-in-None c =
    let s : State = the_view c.store.inside in
    c.new.ensures ∙ group_none s c.args.tx (c.in-None.ensures s)
    ∙ ap (λ (x : State). group_of x c.args.tx) c.store.view_is
