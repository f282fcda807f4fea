use Rattle.std.proofs.Common.{subst}
use Rattle.ent_core.specs.Reply.{reply_seen}
use Rattle.ent_protocol.specs.Event.{Pick}
use Rattle.ent_core.specs.Passed.{resolved_forms}
use Rattle.ent_sched.specs.Tally.{MakesEvent, Tally}
use Rattle.ent_sched.proofs.counted.Counted.pick.Goals as goal

pub returns-clause-ok : goal.returns-clause-ok
returns-clause-ok g c =
    let new : Tally = record { core = c.pick.new.self; ticks = c.add.new.self } in
    subst (λ (old : Tally). MakesEvent resolved_forms Pick (reply_seen c.in_ok-reply.reply) old new) c.self.view_is
    (record { step = c.in_ok-reply.ensures.ok; ticks = c.add.ensures })
