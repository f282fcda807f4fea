use Rattle.std.proofs.Common.{◌≡◌, subst}
use Rattle.ent_core.specs.Reply.{reply_seen}
use Rattle.ent_core.specs.Pick.{NoneCanBePicked}
use Rattle.ent_protocol.specs.Event.{Pick}
use Rattle.ent_desk.specs.Advance.{MakesUnless, is_leaving}
use Rattle.ent_desk.specs.Seen.{DeskState}
use Rattle.ent_desk.proofs.Advancing.{pick_made}
use Rattle.ent_desk.proofs.Counting.{picks_none}
use Rattle.ent_desk.proofs.Keeping.{kept_none}
use Rattle.ent_desk.proofs.Leaving.{picks_stay, stays_left}
use Rattle.ent_desk.proofs.Lent.{picks_lent}
use Rattle.ent_desk.proofs.desk.Desk.pick.Goals as goal

pub invariant_of-self-2 : goal.invariant_of-self-2
invariant_of-self-2 g c =
    let i = c.self.inside in
    let reply = reply_seen c.in_ok-reply.reply in
    let step = c.in_ok-reply.ensures.ok in (
      kept_none i.count i.scripts.total i.entries.total i.core c.pick.new.self Pick reply c.self.invariant.0 step
          (picks_none i.core c.pick.new.self reply step),
      c.advance_told.ensures.known i.core.lent (picks_lent i.core c.pick.new.self reply step) c.self.invariant.1,
    )

pub returns-clause-ok : goal.returns-clause-ok
returns-clause-ok g c =
    let i = c.self.inside in
    let reply = reply_seen c.in_ok-reply.reply in
    let new : DeskState = record { core = c.pick.new.self; count = i.count; left = i.left } in
    subst (λ (old : DeskState). MakesUnless (NoneCanBePicked old.core) Pick old c.advance_told.result new)
    c.self.view_is
    (pick_made i.count i.core c.pick.new.self reply i.left i.left
    (stays_left i.left (is_leaving reply) (picks_stay i.core c.pick.new.self reply c.in_ok-reply.ensures.ok))
    c.advance_told.result c.advance_told.ensures.tells c.in_ok-reply.ensures.ok)

pub returns-clause-journal : goal.returns-clause-journal
returns-clause-journal g c =
    let i = c.self.inside in
    let reply = reply_seen c.in_ok-reply.reply in
    subst (λ (old : DeskState). c.pick.new.self.journal ≡ old.core.journal) c.self.view_is
    (picks_none i.core c.pick.new.self reply c.in_ok-reply.ensures.ok).journal
