use Rattle.std.proofs.Common.{◌∙◌, List, ap, sym}
use Rattle.std.proofs.lemmas.Option.{same_Some}
use Rattle.ent_protocol.specs.Lookup.{turn_of}
use Rattle.ent_protocol.specs.Member.{next_in, next_of}
use Rattle.ent_protocol.specs.State.{State, Member, Submitted}
use Rattle.ent_semantics.specs.Serial.{numbered}
use Rattle.ent_core.proofs.standing.next_turn.Goals as goal

pub returns : goal.returns
returns c = λ member there.
    let own = c.member.result in
    let one = same_Some own member (sym c.member.ensures.there ∙ there) in
    c.turn_of.ensures
    ∙ ap (λ (submitted : List Submitted). turn_of (next_in (numbered submitted own.tx) own)) c.as_slice.ensures.value
    ∙ ap (λ (x : State). turn_of (next_of x own)) c.store.view_is
    ∙ ap (λ (m : Member). turn_of (next_of c.args.store.now m)) one
