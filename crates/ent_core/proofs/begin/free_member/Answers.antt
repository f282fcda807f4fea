use Rattle.std.proofs.Common.{◌∙◌, ◌<◌, ap, length, refl, subst, sym}
use Rattle.std.proofs.lemmas.Option.{same_Some}
use Rattle.ent_protocol.specs.Member.{next_of}
use Rattle.ent_protocol.specs.State.{State, Member}
use Rattle.ent_protocol.specs.Uses.{blocker}
use Rattle.ent_protocol.specs.Waits.{next_uses}
use Rattle.ent_core.proofs.Begun.{begun_blocked, stands_at}
use Rattle.ent_core.proofs.begin.free_member.Goals as goal

pub at-requires : goal.at-requires
at-requires c =
    subst (λ (x : State). c.in_ok-place.place < length x.active) (sym c.store.view_is) c.in_ok-place.ensures.at.in_range

pub returns-in-Some-clause-refused : goal.returns-in-Some-clause-refused
returns-in-Some-clause-refused c =
    let now = c.args.store.now in
    let tx = c.args.tx in
    let place = c.in_ok-place.place in
    let member = c.at.result in
    let there = stands_at now c.store.inside.run.active tx place member (ap (λ (x : State). x.active) c.store.view_is)
    c.in_ok-place.ensures.at c.at.ensures in
    begun_blocked now tx member (next_of now member)
    (record { there = there; idle = c.in_ok-place.ensures.idle member there; is_next = refl }) c.in-Some.holder
    (sym c.in-Some.ensures)

pub returns-in-None-clause-free : goal.returns-in-None-clause-free
returns-in-None-clause-free c =
    let now = c.args.store.now in
    let tx = c.args.tx in
    let place = c.in_ok-place.place in
    let member = c.at.result in
    let there = stands_at now c.store.inside.run.active tx place member (ap (λ (x : State). x.active) c.store.view_is)
    c.in_ok-place.ensures.at c.at.ensures in
    record {
      at = c.in_ok-place.ensures.at;
      free = λ other found. record {
        idle = c.in_ok-place.ensures.idle other found;
        unblocked = ap (λ (m : Member). blocker now m (next_uses (next_of now m)))
            (sym (same_Some member other (sym there ∙ found))) ∙ sym c.in-None.ensures;
      };
    }
