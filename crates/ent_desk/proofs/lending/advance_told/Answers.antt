use Rattle.std.proofs.Common.{◌≡◌, ◌∙◌, ◌++◌, ◌∷◌, [], List, ap, length, subst, sym}
use Rattle.ent_core.specs.Reply.{reply_seen}
use Rattle.ent_core.specs.declared.reply.Reply.{Reply as Given}
use Rattle.ent_protocol.specs.Job.{Job}
use Rattle.ent_desk.specs.Lending.{IsLentBehind}
use Rattle.ent_stamp.specs.Stamps.{AreStampsBehind}
use Rattle.ent_desk.proofs.Lent.{lent_unless}
use Rattle.ent_desk.proofs.lending.advance_told.Goals as goal

pub returns-in-Lent-clause-known : goal.returns-in-Lent-clause-known
returns-in-Lent-clause-known g c = λ before is are.
    let lent = c.args.core.now.lent in
    let more : lent ≡ before ++ c.in-Lent.job ∷ [] =
    subst (λ (reply : Given). IsLentBehind (reply_seen reply) before lent) c.in-Lent.is is in
    subst (λ (jobs : List Job). AreStampsBehind c.lend.new.self.older c.lend.new.self.stamps.items jobs) (sym more)
    (c.lend.ensures.known before (ap length (sym more) ∙ sym c.lent_count.ensures) are)

pub returns-in_default-clause-known : goal.returns-in_default-clause-known
returns-in_default-clause-known g c = λ before is are.
    c.keep_left.ensures before (lent_unless c.args.reply before c.args.core.now.lent c.in_default.not-Lent is) are
