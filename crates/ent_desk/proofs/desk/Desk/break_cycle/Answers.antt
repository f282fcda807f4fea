use Rattle.std.proofs.Common.{◌≡◌, ◌||◌, Bool, ap, subst}
use Rattle.ent_core.specs.Reply.{reply_seen}
use Rattle.ent_protocol.specs.Event.{BreakCycle}
use Rattle.ent_protocol.specs.Waits.{NoDeadlock}
use Rattle.ent_desk.specs.Advance.{MakesUnless}
use Rattle.ent_desk.specs.Seen.{DeskState}
use Rattle.ent_desk.proofs.Advancing.{break_made}
use Rattle.ent_desk.proofs.Counting.{breaks_none}
use Rattle.ent_desk.proofs.Keeping.{kept_none}
use Rattle.ent_desk.proofs.Lent.{breaks_lent}
use Rattle.ent_desk.proofs.desk.Desk.break_cycle.Goals as goal

pub invariant_of-self : goal.invariant_of-self
invariant_of-self g c =
    let i = c.self.inside in
    let reply = reply_seen c.break_cycle-reply.result in
    let step = c.break_cycle-reply.ensures.step in (
      kept_none i.count i.scripts.total i.entries.total i.core c.break_cycle-reply.new.self BreakCycle reply
          c.self.invariant.0 step (breaks_none i.core c.break_cycle-reply.new.self reply step),
      c.advance_told.ensures.known i.core.lent (breaks_lent i.core c.break_cycle-reply.new.self reply step)
          c.self.invariant.1,
    )

pub returns : goal.returns
returns g c =
    let i = c.self.inside in
    let reply = reply_seen c.break_cycle-reply.result in
    let step = c.break_cycle-reply.ensures.step in
    let new : DeskState =
    record { core = c.break_cycle-reply.new.self; count = i.count; left = i.left || c.is_leaving.result } in
    record {
      ok = subst (λ (old : DeskState). MakesUnless (NoDeadlock old.core) BreakCycle old c.advance_told.result new)
          c.self.view_is
          (break_made i.count i.core c.break_cycle-reply.new.self reply i.left (i.left || c.is_leaving.result)
          (ap (λ (leaves : Bool). i.left || leaves) c.is_leaving.ensures) c.advance_told.result
          c.advance_told.ensures.tells step);
      journal = subst (λ (old : DeskState). c.break_cycle-reply.new.self.journal ≡ old.core.journal) c.self.view_is
          (breaks_none i.core c.break_cycle-reply.new.self reply step).journal;
    }
