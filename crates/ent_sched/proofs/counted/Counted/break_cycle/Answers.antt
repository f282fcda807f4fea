use Rattle.std.proofs.Common.{subst}
use Rattle.ent_core.specs.Reply.{reply_seen}
use Rattle.ent_protocol.specs.Event.{BreakCycle}
use Rattle.ent_core.specs.Passed.{resolved_forms}
use Rattle.ent_sched.specs.Tally.{MakesEvent, Tally}
use Rattle.ent_sched.proofs.counted.Counted.break_cycle.Goals as goal

pub returns-clause-made : goal.returns-clause-made
returns-clause-made g c =
    let new : Tally = record { core = c.break_cycle-reply.new.self; ticks = c.add.new.self } in
    subst (λ (old : Tally). MakesEvent resolved_forms BreakCycle (reply_seen c.break_cycle-reply.result) old new)
    c.self.view_is (record { step = c.break_cycle-reply.ensures.step; ticks = c.add.ensures })
