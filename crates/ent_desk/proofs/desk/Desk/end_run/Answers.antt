use Rattle.std.proofs.Common.{◌≡◌, ◌∙◌, ◌||◌, Bool, ap, subst, sym, true, false}
use Rattle.ent_core.specs.Reply.{reply_seen}
use Rattle.ent_protocol.specs.Event.{EndRun}
use Rattle.ent_desk.specs.Advance.{EndsRun}
use Rattle.ent_desk.specs.Seen.{DeskState, LeadsOn}
use Rattle.ent_desk.specs.declared.advance.Advance.TheVariants.{Idle}
use Rattle.ent_desk.proofs.Advancing.{kept_busy, ended, rests_as_ended}
use Rattle.ent_desk.proofs.Counting.{ends_none}
use Rattle.ent_desk.proofs.Keeping.{ends_on, kept_none}
use Rattle.ent_desk.proofs.Lent.{ends_lent}
use Rattle.ent_desk.proofs.desk.Desk.end_run.Goals as goal

pub invariant_of-self-2 : goal.invariant_of-self-2
invariant_of-self-2 g c =
    let i = c.self.inside in
    let reply = reply_seen c.in_ok-reply.reply in
    let step = c.in_ok-reply.ensures.ok in (
      kept_none i.count i.scripts.total i.entries.total i.core c.end_run.new.self EndRun reply c.self.invariant.0 step
          (ends_none i.core c.end_run.new.self reply step),
      c.advance_told.ensures.known i.core.lent (ends_lent i.core c.end_run.new.self reply step) c.self.invariant.1,
    )

pub invariant_of-self-in-Some : goal.invariant_of-self-in-Some
invariant_of-self-in-Some g c =
    let i = c.self.inside in
    let reply = reply_seen c.in_ok-reply.reply in
    let step = c.in_ok-reply.ensures.ok in (
      kept_none i.count i.scripts.total i.entries.total i.core c.end_run.new.self EndRun reply c.self.invariant.0 step
          (ends_none i.core c.end_run.new.self reply step),
      c.advance_told.ensures.known i.core.lent (ends_lent i.core c.end_run.new.self reply step) c.self.invariant.1,
    )

pub returns-then-not-running-clause-ok : goal.returns-then-not-running-clause-ok
returns-then-not-running-clause-ok g c =
    let now = c.args.self.now in
    let off : now.core.running ≡ false =
    sym (ap (λ (d : DeskState). d.core.running) c.self.view_is) ∙ (sym c.running.ensures ∙ c.if-not-running.true) in
    rests_as_ended now c.rest.result off c.rest.ensures

pub returns-then-not-running-clause-events : goal.returns-then-not-running-clause-events
returns-then-not-running-clause-events g c =
    let now = c.args.self.now in
    let off : now.core.running ≡ false =
    sym (ap (λ (d : DeskState). d.core.running) c.self.view_is) ∙ (sym c.running.ensures ∙ c.if-not-running.true) in
    ends_on c.rest.result now now (rests_as_ended now c.rest.result off c.rest.ensures)

pub returns-in-Some-clause-ok : goal.returns-in-Some-clause-ok
returns-in-Some-clause-ok g c =
    let i = c.self.inside in
    let reply = reply_seen c.in_ok-reply.reply in
    let new : DeskState = record { core = c.end_run.new.self; count = i.count; left = i.left || c.is_leaving.result } in
    let left = ap (λ (leaves : Bool). i.left || leaves) c.is_leaving.ensures in
    let on : i.core.running ≡ true = sym c.running.ensures ∙ c.if-not-running.false in
    subst (λ (old : DeskState). EndsRun old c.in-Some.ended new) c.self.view_is
    (ended i.count i.core c.end_run.new.self reply i.left (i.left || c.is_leaving.result) left c.in-Some.ended
    (sym c.in-Some.is ∙ c.advance_told.ensures.tells) on c.in_ok-reply.ensures.ok)

pub returns-in-Some-clause-events : goal.returns-in-Some-clause-events
returns-in-Some-clause-events g c =
    let i = c.self.inside in
    let reply = reply_seen c.in_ok-reply.reply in
    let before : DeskState = record { core = i.core; count = i.count; left = i.left } in
    let new : DeskState = record { core = c.end_run.new.self; count = i.count; left = i.left || c.is_leaving.result } in
    let left = ap (λ (leaves : Bool). i.left || leaves) c.is_leaving.ensures in
    let on : i.core.running ≡ true = sym c.running.ensures ∙ c.if-not-running.false in
    subst (λ (old : DeskState). LeadsOn old new) c.self.view_is
    (ends_on c.in-Some.ended before new
    (ended i.count i.core c.end_run.new.self reply i.left (i.left || c.is_leaving.result) left c.in-Some.ended
    (sym c.in-Some.is ∙ c.advance_told.ensures.tells) on c.in_ok-reply.ensures.ok))

pub returns-clause-ok : goal.returns-clause-ok
returns-clause-ok g c =
    let i = c.self.inside in
    let reply = reply_seen c.in_ok-reply.reply in
    let new : DeskState = record { core = c.end_run.new.self; count = i.count; left = i.left || c.is_leaving.result } in
    let left = ap (λ (leaves : Bool). i.left || leaves) c.is_leaving.ensures in
    let on : i.core.running ≡ true = sym c.running.ensures ∙ c.if-not-running.false in
    subst (λ (old : DeskState). EndsRun old Idle new) c.self.view_is
    (kept_busy i.count i.core c.end_run.new.self reply i.left (i.left || c.is_leaving.result) left
    (sym c.in_default.is ∙ c.advance_told.ensures.tells) on c.in_ok-reply.ensures.ok)

pub returns-clause-events : goal.returns-clause-events
returns-clause-events g c =
    let i = c.self.inside in
    let reply = reply_seen c.in_ok-reply.reply in
    let before : DeskState = record { core = i.core; count = i.count; left = i.left } in
    let new : DeskState = record { core = c.end_run.new.self; count = i.count; left = i.left || c.is_leaving.result } in
    let left = ap (λ (leaves : Bool). i.left || leaves) c.is_leaving.ensures in
    let on : i.core.running ≡ true = sym c.running.ensures ∙ c.if-not-running.false in
    subst (λ (old : DeskState). LeadsOn old new) c.self.view_is
    (ends_on Idle before new
    (kept_busy i.count i.core c.end_run.new.self reply i.left (i.left || c.is_leaving.result) left
    (sym c.in_default.is ∙ c.advance_told.ensures.tells) on c.in_ok-reply.ensures.ok))
