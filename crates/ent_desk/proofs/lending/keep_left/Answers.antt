use Rattle.std.proofs.Common.{◌≡◌, ◌∙◌, List, ap, length, subst, sym}
use Rattle.ent_core.specs.Reply.{reply_seen}
use Rattle.ent_protocol.specs.Job.{Job}
use Rattle.ent_stamp.specs.Stamps.{AreStampsBehind, jobs_left_by}
use Rattle.ent_desk.specs.Lending.{gone_in, is_ended}
use Rattle.ent_desk.proofs.Lent.{left_all, left_some}
use Rattle.ent_desk.proofs.lending.keep_left.Goals as goal

pub returns-then-is_ended : goal.returns-then-is_ended
returns-then-is_ended g c = λ before is are. c.forget.ensures c.args.core.now.lent (sym c.lent_count.ensures)

pub returns-in-Some : goal.returns-in-Some
returns-in-Some g c = λ before is are.
    let lent = c.args.core.now.lent in
    let reply = reply_seen c.args.reply.now in
    let left : lent ≡ jobs_left_by c.in-Some.gone before =
    left_some (is_ended reply) (gone_in reply) c.in-Some.gone before lent (sym c.is_ended.ensures ∙ c.if-is_ended.false)
    (sym c.gone_in.ensures ∙ c.in-Some.is) is in
    subst (λ (jobs : List Job). AreStampsBehind c.leave.new.self.older c.leave.new.self.stamps.items jobs) (sym left)
    (c.leave.ensures before (ap length (sym left) ∙ sym c.lent_count-in-Some.ensures) are)

pub returns-in_default : goal.returns-in_default
returns-in_default g c = λ before is are.
    let own = c.args.known.now in
    let lent = c.args.core.now.lent in
    let reply = reply_seen c.args.reply.now in
    let same : lent ≡ before =
    left_all (is_ended reply) (gone_in reply) before lent (sym c.is_ended.ensures ∙ c.if-is_ended.false)
    (sym c.gone_in.ensures ∙ c.in_default.is) is in
    subst (λ (jobs : List Job). AreStampsBehind own.older own.stamps.items jobs) (sym same) are
