use Rattle.std.proofs.Common.{◌≡◌, ◌∙◌, ◌||◌, suc, Bool, List, ap, drop, length, refl, subst, sym}
use Rattle.ent_core.specs.Reply.{reply_seen}
use Rattle.ent_core.specs.Passed.{resolved_forms}
use Rattle.ent_protocol.specs.Event.{Begin}
use Rattle.ent_protocol.specs.Quiet.{CanMove}
use Rattle.ent_desk.specs.Advance.{MakesUnless}
use Rattle.ent_desk.specs.Drafts.{AreDraftedFor}
use Rattle.ent_desk.specs.Receipts.{AreReceived, Receives}
use Rattle.ent_desk.specs.Seen.{DeskState, GetsReceipts, SessionState}
use Rattle.ent_desk.specs.declared.ticket.Receipt.{Receipt}
use Rattle.ent_desk.proofs.Advancing.{begin_made, stayed}
use Rattle.ent_desk.proofs.Receiving.{are_of_group, grown_by, kept_begin, none_received, receives}
use Rattle.ent_desk.proofs.Lent.{begins_lent}
use Rattle.ent_desk.proofs.desk.Desk.begin.Goals as goal

pub keep_receipts-made-requires-clause-of_group : goal.keep_receipts-made-requires-clause-of_group
keep_receipts-made-requires-clause-of_group g c =
    let i = c.self.inside in
    let new = c.begin_free.new.self in
    let tx = c.args.found.tx in
    let reply = reply_seen c.in_ok-reply.reply in
    let step = c.in_ok-reply.ensures.ok in
    let drafts = c.args.drafts.items in
    let grown = grown_by i.core new tx drafts reply c.is_reached.ensures.reached c.is_reached-2.ensures.reached
    (c.members_stand_by_number.ensures resolved_forms) (c.transactions_stand_once.ensures.once resolved_forms)
    (c.transactions_stand_once.ensures.bound resolved_forms)
    (subst (λ (d : DeskState). AreDraftedFor d.core tx drafts) (sym c.self.view_is) c.requires.drafted) step in
    let before = length c.journal-before.result.now in
    let long : before ≡ length i.core.journal = ap length c.journal-before.ensures in
    are_of_group i.core drafts new grown before long

pub invariant_of-self-2 : goal.invariant_of-self-2
invariant_of-self-2 g c =
    let i = c.self.inside in
    let new = c.begin_free.new.self in
    let tx = c.args.found.tx in
    let reply = reply_seen c.in_ok-reply.reply in
    let step = c.in_ok-reply.ensures.ok in
    let drafts = c.args.drafts.items in
    let grown = grown_by i.core new tx drafts reply c.is_reached.ensures.reached c.is_reached-2.ensures.reached
    (c.members_stand_by_number.ensures resolved_forms) (c.transactions_stand_once.ensures.once resolved_forms)
    (c.transactions_stand_once.ensures.bound resolved_forms)
    (subst (λ (d : DeskState). AreDraftedFor d.core tx drafts) (sym c.self.view_is) c.requires.drafted) step in
    let before = length c.journal-before.result.now in
    let long : before ≡ length i.core.journal = ap length c.journal-before.ensures in (
      kept_begin i.core drafts new grown before long i.count i.scripts.total i.entries.total c.add.new.self.total
          c.keep_receipts-made.result tx reply c.self.invariant.0 step c.keep_receipts-made.ensures.made
          c.add.ensures.total,
      c.advance_told.ensures.known i.core.lent (begins_lent i.core new reply tx step) c.self.invariant.1,
    )

pub returns-clause-ok : goal.returns-clause-ok
returns-clause-ok g c =
    let i = c.self.inside in
    let new = c.begin_free.new.self in
    let tx = c.args.found.tx in
    let reply = reply_seen c.in_ok-reply.reply in
    let step = c.in_ok-reply.ensures.ok in
    let moved = begin_made i.count i.core new reply i.left (i.left || c.is_leaving.result)
    (ap (λ (leaves : Bool). i.left || leaves) c.is_leaving.ensures) tx c.advance_told.result
    c.advance_told.ensures.tells step
    (c.members_stand_by_number.ensures resolved_forms i.core c.is_reached.ensures.reached)
    (c.transactions_stand_once.ensures.once resolved_forms i.core c.is_reached.ensures.reached)
    (c.refusals_change_nothing.ensures resolved_forms i.core (Begin tx) reply new step) in
    let after : DeskState = record { core = new; count = i.count; left = i.left || c.is_leaving.result } in
    subst (λ (old : DeskState). MakesUnless (¬ CanMove old.core tx) (Begin tx) old c.advance_told.result after)
    c.self.view_is moved

pub returns-clause-session : goal.returns-clause-session
returns-clause-session g c =
    let i = c.self.inside in
    let new = c.begin_free.new.self in
    let tx = c.args.found.tx in
    let reply = reply_seen c.in_ok-reply.reply in
    let step = c.in_ok-reply.ensures.ok in
    let drafts = c.args.drafts.items in
    let grown = grown_by i.core new tx drafts reply c.is_reached.ensures.reached c.is_reached-2.ensures.reached
    (c.members_stand_by_number.ensures resolved_forms) (c.transactions_stand_once.ensures.once resolved_forms)
    (c.transactions_stand_once.ensures.bound resolved_forms)
    (subst (λ (d : DeskState). AreDraftedFor d.core tx drafts) (sym c.self.view_is) c.requires.drafted) step in
    let before = length c.journal-before.result.now in
    let long : before ≡ length i.core.journal = ap length c.journal-before.ensures in
    let s = c.session.inside in
    let kept = c.keep_receipts-made.new.receipts.items in
    let got = receives i.core drafts new grown before long s.receipts.items kept
    (subst (λ (l : List Receipt). AreReceived new (suc before) (drop before new.journal) l kept) c.reserve.ensures.items
    c.keep_receipts-made.ensures.received) in
    let after : SessionState = record { tickets = s.tickets.items; receipts = kept; first = s.first } in
    subst (λ (old : SessionState). GetsReceipts old after) c.session.view_is
    (record { tickets = refl; first = refl; receipts = (got.received.got, got.received.behind) })

pub returns-clause-receipts : goal.returns-clause-receipts
returns-clause-receipts g c =
    let i = c.self.inside in
    let new = c.begin_free.new.self in
    let tx = c.args.found.tx in
    let reply = reply_seen c.in_ok-reply.reply in
    let step = c.in_ok-reply.ensures.ok in
    let drafts = c.args.drafts.items in
    let grown = grown_by i.core new tx drafts reply c.is_reached.ensures.reached c.is_reached-2.ensures.reached
    (c.members_stand_by_number.ensures resolved_forms) (c.transactions_stand_once.ensures.once resolved_forms)
    (c.transactions_stand_once.ensures.bound resolved_forms)
    (subst (λ (d : DeskState). AreDraftedFor d.core tx drafts) (sym c.self.view_is) c.requires.drafted) step in
    let before = length c.journal-before.result.now in
    let long : before ≡ length i.core.journal = ap length c.journal-before.ensures in
    let s = c.session.inside in
    let kept = c.keep_receipts-made.new.receipts.items in
    let got = receives i.core drafts new grown before long s.receipts.items kept
    (subst (λ (l : List Receipt). AreReceived new (suc before) (drop before new.journal) l kept) c.reserve.ensures.items
    c.keep_receipts-made.ensures.received) in
    subst (λ (old : DeskState). Receives old.core new c.args.session.now.receipts kept) c.self.view_is
    (subst (λ (old : SessionState). Receives i.core new old.receipts kept) c.session.view_is got)

pub returns-clause-same : goal.returns-clause-same
returns-clause-same g c = λ none.
    let i = c.self.inside in
    let new = c.begin_free.new.self in
    let tx = c.args.found.tx in
    let reply = reply_seen c.in_ok-reply.reply in
    let step = c.in_ok-reply.ensures.ok in
    let drafts = c.args.drafts.items in
    let grown = grown_by i.core new tx drafts reply c.is_reached.ensures.reached c.is_reached-2.ensures.reached
    (c.members_stand_by_number.ensures resolved_forms) (c.transactions_stand_once.ensures.once resolved_forms)
    (c.transactions_stand_once.ensures.bound resolved_forms)
    (subst (λ (d : DeskState). AreDraftedFor d.core tx drafts) (sym c.self.view_is) c.requires.drafted) step in
    let before = length c.journal-before.result.now in
    let long : before ≡ length i.core.journal = ap length c.journal-before.ensures in
    let s = c.session.inside in
    let kept = c.keep_receipts-made.new.receipts.items in
    let got = receives i.core drafts new grown before long s.receipts.items kept
    (subst (λ (l : List Receipt). AreReceived new (suc before) (drop before new.journal) l kept) c.reserve.ensures.items
    c.keep_receipts-made.ensures.received) in
    let moved = begin_made i.count i.core new reply i.left (i.left || c.is_leaving.result)
    (ap (λ (leaves : Bool). i.left || leaves) c.is_leaving.ensures) tx c.advance_told.result
    c.advance_told.ensures.tells step
    (c.members_stand_by_number.ensures resolved_forms i.core c.is_reached.ensures.reached)
    (c.transactions_stand_once.ensures.once resolved_forms i.core c.is_reached.ensures.reached)
    (c.refusals_change_nothing.ensures resolved_forms i.core (Begin tx) reply new step) in
    let before_it : DeskState = record { core = i.core; count = i.count; left = i.left } in
    let after : DeskState = record { core = new; count = i.count; left = i.left || c.is_leaving.result } in
    let still = stayed (¬ CanMove i.core tx) (Begin tx) before_it after c.advance_told.result none moved in
    let same = none_received i.core new s.receipts.items kept (ap (λ (d : DeskState). d.core) still.0) got in
    (λ j. let now : SessionState = record { tickets = s.tickets.items; receipts = same j; first = s.first } in now)
    ∙ c.session.view_is
