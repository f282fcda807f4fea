use Rattle.std.proofs.Common.{◌≡◌, ◌∙◌, ap, get_or, subst, sym}
use Rattle.ent_protocol.specs.Event.{Begin}
use Rattle.ent_protocol.specs.Lookup.{running_members}
use Rattle.ent_protocol.specs.Quiet.{CanMove}
use Rattle.ent_desk.specs.Advance.{IsNextInRun, MovesInRun}
use Rattle.ent_desk.specs.Seen.{DeskState, SessionState}
use Rattle.ent_desk.proofs.Advancing.{moved_in_run, stayed}
use Rattle.ent_desk.proofs.Receiving.{receives_none}
use Rattle.ent_desk.proofs.Standstill.{next_member, none_moves, one_more_stuck}
use Rattle.ent_desk.proofs.desk.Desk.begin_first.Goals as goal

pub returns-in-Some-clause-ok : goal.returns-in-Some-clause-ok
returns-in-Some-clause-ok g c =
    let old = c.args.self.now in
    let items = c.as_slice-tx-items.result.now in
    let at = c.loop-tx.tx-index in
    let now = c.loop-tx.invariant in
    let are : running_members old.core ≡ items =
    sym (c.as_slice-tx-items.ensures.list ∙ c.members-members.ensures
    ∙ ap (λ (d : DeskState). running_members d.core) c.self.view_is) in
    let tx = get_or items at 0 in
    let mid = c.loop-tx.self in
    let new = c.begin_ready.new.self in
    let next = subst (λ (d : DeskState). IsNextInRun d.core (Begin tx)) (sym now.desk)
    (next_member old.core items at are c.loop-tx-test.true now.nobody_moves) in
    subst (λ (d : DeskState). MovesInRun d c.in-Some.begun new) now.desk
    (moved_in_run (¬ CanMove mid.core tx) (Begin tx) mid new c.in_ok-begun.field-0 c.in-Some.begun next c.in-Some.is
    c.in_ok-begun.ensures.ok)

pub loop-tx-preserved : goal.loop-tx-preserved
loop-tx-preserved g c =
    let old = c.args.self.now in
    let items = c.as_slice-tx-items.result.now in
    let at = c.loop-tx.tx-index in
    let now = c.loop-tx.invariant in
    let are : running_members old.core ≡ items =
    sym (c.as_slice-tx-items.ensures.list ∙ c.members-members.ensures
    ∙ ap (λ (d : DeskState). running_members d.core) c.self.view_is) in
    let tx = get_or items at 0 in
    let mid = c.loop-tx.self in
    let h = stayed (¬ CanMove mid.core tx) (Begin tx) mid c.begin_ready.new.self c.in_ok-begun.field-0
    c.in_default.is c.in_ok-begun.ensures.ok in
    record {
      desk = h.0 ∙ now.desk;
      session = c.in_ok-begun.ensures.same c.in_default.is ∙ now.session;
      nobody_moves = one_more_stuck old.core items at c.loop-tx-test.true now.nobody_moves
          (subst (λ (d : DeskState). ¬ CanMove d.core tx) now.desk h.1);
    }

pub returns-clause-ok : goal.returns-clause-ok
returns-clause-ok g c =
    let old = c.args.self.now in
    let items = c.as_slice-tx-items.result.now in
    let at = c.loop-tx.tx-index in
    let now = c.loop-tx.invariant in
    let are : running_members old.core ≡ items =
    sym (c.as_slice-tx-items.ensures.list ∙ c.members-members.ensures
    ∙ ap (λ (d : DeskState). running_members d.core) c.self.view_is) in
    (now.desk, none_moves old.core items at are c.loop-tx-test.false now.nobody_moves)

pub returns-clause-receipts : goal.returns-clause-receipts
returns-clause-receipts g c =
    let now = c.loop-tx.invariant in
    receives_none c.args.self.now.core c.loop-tx.self.core c.args.session.now.receipts c.loop-tx.session.receipts
    (ap (λ (d : DeskState). d.core.journal) now.desk) (ap (λ (s : SessionState). s.receipts) now.session)
