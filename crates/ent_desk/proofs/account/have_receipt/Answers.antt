use Rattle.std.proofs.Common.{subst}
use Rattle.std.specs.Prelude.{Contains}
use Rattle.ent_desk.specs.Receipts.{receipt}
use Rattle.ent_desk.specs.Seen.{SessionState}
use Rattle.ent_desk.proofs.Accounting.{contains_flat}
use Rattle.ent_desk.proofs.account.have_receipt.Goals as goal

pub returns-then-has_receipt : goal.returns-then-has_receipt
returns-then-has_receipt g c = λ yes.
    contains_flat (λ (s : SessionState). s.receipts) (receipt c.args.number c.args.entry.now c.args.runs)
    c.args.sessions.now c.loop-session.session-index
    c.session-item.result c.loop-session-test.true
    (subst (λ (s : SessionState). Contains s.receipts (receipt c.args.number c.args.entry.now c.args.runs))
    c.session-item.is (c.has_receipt.ensures c.if-has_receipt.true))
