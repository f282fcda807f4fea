use Rattle.std.proofs.Common.{◌∙◌, List, ap}
use Rattle.ent_core.specs.contracts.store.Store.{the_view}
use Rattle.ent_protocol.specs.Member.{next_in, next_of}
use Rattle.ent_protocol.specs.State.{State, Submitted}
use Rattle.ent_protocol.specs.Uses.{blocker}
use Rattle.ent_protocol.specs.Waits.{next_uses}
use Rattle.ent_semantics.specs.Serial.{numbered}
use Rattle.ent_core.proofs.begin.blocker_of.Goals as goal

pub returns : goal.returns
returns c =
    let s : State = the_view c.store.inside in
    let member = c.args.member.now in
    c.blocker_of.ensures s
    ∙ ap (λ (submitted : List Submitted). blocker s member (next_uses (next_in (numbered submitted member.tx) member)))
    c.as_slice.ensures.value
    ∙ ap (λ (x : State). blocker x member (next_uses (next_of x member))) c.store.view_is
