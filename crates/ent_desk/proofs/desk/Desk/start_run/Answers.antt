use Rattle.std.proofs.Common.{◌≡◌, ◌∙◌, subst, sym, false}
use Rattle.ent_core.specs.Reply.{reply_seen}
use Rattle.ent_core.specs.Passed.{resolved_forms}
use Rattle.ent_protocol.specs.Event.{StartRun}
use Rattle.ent_desk.specs.Advance.{StartsRun, is_leaving}
use Rattle.ent_desk.specs.Seen.{DeskState, LeadsOn}
use Rattle.ent_desk.specs.declared.advance.Advance.TheVariants.{Done}
use Rattle.ent_desk.proofs.Advancing.{all_done, started}
use Rattle.ent_desk.proofs.Counting.{starts_none}
use Rattle.ent_desk.proofs.Keeping.{kept_none, starts_on}
use Rattle.ent_desk.proofs.Leaving.{starts_stay, stays_left}
use Rattle.ent_desk.proofs.Lent.{starts_lent}
use Rattle.ent_desk.proofs.desk.Desk.start_run.Goals as goal

pub invariant_of-self-2 : goal.invariant_of-self-2
invariant_of-self-2 g c =
    let i = c.self.inside in
    let reply = reply_seen c.in_ok-reply.reply in
    let step = c.in_ok-reply.ensures.ok in (
      kept_none i.count i.scripts.total i.entries.total i.core c.start_run.new.self StartRun reply
          c.self.invariant.0 step
          (starts_none i.core c.start_run.new.self reply step),
      c.advance_told.ensures.known i.core.lent (starts_lent i.core c.start_run.new.self reply step) c.self.invariant.1,
    )

pub invariant_of-self-in-Some : goal.invariant_of-self-in-Some
invariant_of-self-in-Some g c =
    let i = c.self.inside in
    let reply = reply_seen c.in_ok-reply.reply in
    let step = c.in_ok-reply.ensures.ok in (
      kept_none i.count i.scripts.total i.entries.total i.core c.start_run.new.self StartRun reply
          c.self.invariant.0 step
          (starts_none i.core c.start_run.new.self reply step),
      c.advance_told.ensures.known i.core.lent (starts_lent i.core c.start_run.new.self reply step) c.self.invariant.1,
    )

pub returns-in-Some-clause-ok : goal.returns-in-Some-clause-ok
returns-in-Some-clause-ok g c =
    let i = c.self.inside in
    let reply = reply_seen c.in_ok-reply.reply in
    let new : DeskState = record { core = c.start_run.new.self; count = i.count; left = i.left } in
    let left = stays_left i.left (is_leaving reply)
    (starts_stay i.core c.start_run.new.self reply c.in_ok-reply.ensures.ok) in
    let off : i.core.running ≡ false = sym c.running.ensures ∙ c.if-running.false in
    subst (λ (old : DeskState). StartsRun old c.in-Some.started new) c.self.view_is
    (started i.count i.core c.start_run.new.self reply i.left i.left left c.in-Some.started
    (sym c.in-Some.is ∙ c.advance_told.ensures.tells)
    off c.in_ok-reply.ensures.ok)

pub returns-in-Some-clause-events : goal.returns-in-Some-clause-events
returns-in-Some-clause-events g c =
    let i = c.self.inside in
    let reply = reply_seen c.in_ok-reply.reply in
    let before : DeskState = record { core = i.core; count = i.count; left = i.left } in
    let new : DeskState = record { core = c.start_run.new.self; count = i.count; left = i.left } in
    let left = stays_left i.left (is_leaving reply)
    (starts_stay i.core c.start_run.new.self reply c.in_ok-reply.ensures.ok) in
    let off : i.core.running ≡ false = sym c.running.ensures ∙ c.if-running.false in
    subst (λ (old : DeskState). LeadsOn old new) c.self.view_is
    (starts_on c.in-Some.started before new
    (started i.count i.core c.start_run.new.self reply i.left i.left left c.in-Some.started
    (sym c.in-Some.is ∙ c.advance_told.ensures.tells)
    off c.in_ok-reply.ensures.ok))

pub returns-clause-ok : goal.returns-clause-ok
returns-clause-ok g c =
    let i = c.self.inside in
    let reply = reply_seen c.in_ok-reply.reply in
    let new : DeskState = record { core = c.start_run.new.self; count = i.count; left = i.left } in
    let left = stays_left i.left (is_leaving reply)
    (starts_stay i.core c.start_run.new.self reply c.in_ok-reply.ensures.ok) in
    let off : i.core.running ≡ false = sym c.running.ensures ∙ c.if-running.false in
    subst (λ (old : DeskState). StartsRun old Done new) c.self.view_is
    (all_done i.count i.core c.start_run.new.self reply i.left i.left left
    (sym c.in_default.is ∙ c.advance_told.ensures.tells) off c.in_ok-reply.ensures.ok c.is_reached.ensures.reached (c.finished_scripts_have_fates.ensures.book resolved_forms))

pub returns-clause-events : goal.returns-clause-events
returns-clause-events g c =
    let i = c.self.inside in
    let reply = reply_seen c.in_ok-reply.reply in
    let before : DeskState = record { core = i.core; count = i.count; left = i.left } in
    let new : DeskState = record { core = c.start_run.new.self; count = i.count; left = i.left } in
    let left = stays_left i.left (is_leaving reply)
    (starts_stay i.core c.start_run.new.self reply c.in_ok-reply.ensures.ok) in
    let off : i.core.running ≡ false = sym c.running.ensures ∙ c.if-running.false in
    subst (λ (old : DeskState). LeadsOn old new) c.self.view_is
    (starts_on Done before new
    (all_done i.count i.core c.start_run.new.self reply i.left i.left left
    (sym c.in_default.is ∙ c.advance_told.ensures.tells) off c.in_ok-reply.ensures.ok c.is_reached.ensures.reached (c.finished_scripts_have_fates.ensures.book resolved_forms)))
