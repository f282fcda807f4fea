use Rattle.std.proofs.Common.{◌≡◌, ◌∙◌, Some, ap, subst, sym}
use Rattle.ent_headline.specs.Resolved.{resolved_forms}
use Rattle.ent_members.specs.Turn.{turn_seen}
use Rattle.ent_protocol.specs.Lookup.{Ready, Turn, standing}
use Rattle.ent_protocol.specs.State.{State}
use Rattle.ent_core.specs.Begin.{IsFreeMember}
use Rattle.ent_core.proofs.Begun.{found_at}
use Rattle.ent_core.proofs.Whereabouts.{stands_ready}
use Rattle.ent_core.proofs.reached.Core.next_turn.Goals as goal

pub returns : goal.returns
returns c =
    let s : State = c.self.inside.store in
    let found = c.args.found in
    let stand = c.transactions_stand_once.ensures.once resolved_forms s c.self.invariant.reached in
    let free = subst (λ (x : State). IsFreeMember x found) (sym c.self.view_is) c.requires in
    let there = found_at s.active found.tx found.place free.at in
    subst (λ (x : State). standing x found.tx ≡ Some (Ready (turn_seen c.next_turn.result))) c.self.view_is
    (stands_ready s found.tx stand there.0 there.1 (free.free there.0 there.1).idle
    ∙ ap (λ (turn : Turn). Some (Ready turn)) (sym (c.next_turn.ensures there.0 there.1)))
