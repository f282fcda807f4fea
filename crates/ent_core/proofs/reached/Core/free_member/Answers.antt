use Rattle.std.proofs.Common.{◌≡◌, Some, subst}
use Rattle.std.proofs.lemmas.Result.{IfOk-weaker}
use Rattle.ent_headline.specs.Resolved.{resolved_forms}
use Rattle.ent_protocol.specs.Lookup.{Ready, Turn, standing, turn_of}
use Rattle.ent_protocol.specs.Member.{next_of}
use Rattle.ent_protocol.specs.State.{State}
use Rattle.ent_core.specs.Begin.{IsFreeMember}
use Rattle.ent_core.specs.declared.begin.FreeMember.{FreeMember}
use Rattle.ent_core.proofs.Begun.{found_at}
use Rattle.ent_core.proofs.Whereabouts.{stands_ready}
use Rattle.ent_core.proofs.reached.Core.free_member.Goals as goal

pub returns-clause-ready : goal.returns-clause-ready
returns-clause-ready c =
    let s : State = c.self.inside.store in
    let stand = c.transactions_stand_once.ensures.once resolved_forms s c.self.invariant.reached in
    let IsReady : State → FreeMember → Type 0 = λ x found. (turn : Turn) × (standing x found.tx ≡ Some (Ready turn)) in
    IfOk-weaker c.free_member.result (IsFreeMember s) (IsReady c.args.self.now)
    (λ found free.
    let there = found_at s.active found.tx found.place free.at in
    subst (λ (x : State). IsReady x found) c.self.view_is
    (turn_of (next_of s there.0), stands_ready s found.tx stand there.0 there.1 (free.free there.0 there.1).idle))
    c.free_member.ensures.free
