use Rattle.std.proofs.Common.{List, subst, sym}
use Rattle.ent_core.specs.Passed.{resolved_forms}
use Rattle.ent_protocol.specs.Event.{Submitted}
use Rattle.ent_protocol.specs.Job.{Job}
use Rattle.ent_stamp.specs.Stamps.{AreStampsBehind}
use Rattle.ent_desk.proofs.Keeping.{kept_submit}
use Rattle.ent_desk.proofs.Lent.{submits_lent}
use Rattle.ent_desk.proofs.desk.Desk.submit.Goals as goal

pub invariant_of-self-2 : goal.invariant_of-self-2
invariant_of-self-2 g c =
    let i = c.self.inside in (
      kept_submit i.count i.scripts.total i.entries.total c.add.new.self.total i.core c.submit_to.new.core c.args.script
          c.in_ok-tx.tx c.self.invariant.0 c.in_ok-tx.ensures.ok c.add.ensures.total,
      subst (λ (jobs : List Job). AreStampsBehind i.known.older i.known.stamps.items jobs)
          (sym (submits_lent i.core c.submit_to.new.core (Submitted c.in_ok-tx.tx) resolved_forms c.args.script
          c.in_ok-tx.ensures.ok))
          c.self.invariant.1,
    )
