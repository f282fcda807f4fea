use Rattle.std.proofs.Common.{subst}
use Rattle.std.specs.Prelude.{Contains}
use Rattle.ent_desk.specs.Seen.{SessionState, ticket}
use Rattle.ent_desk.proofs.Accounting.{contains_flat}
use Rattle.ent_desk.proofs.account.have_ticket.Goals as goal

pub returns-then-has_ticket : goal.returns-then-has_ticket
returns-then-has_ticket g c = λ yes.
    contains_flat (λ (s : SessionState). s.tickets) (ticket c.args.tx c.args.script.now) c.args.sessions.now
    c.loop-session.session-index
    c.session-item.result c.loop-session-test.true
    (subst (λ (s : SessionState). Contains s.tickets (ticket c.args.tx c.args.script.now)) c.session-item.is
    (c.has_ticket.ensures c.if-has_ticket.true))
