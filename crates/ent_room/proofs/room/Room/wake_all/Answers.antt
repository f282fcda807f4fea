use Rattle.ent_room.proofs.room.Room.wake_all.Goals as goal

pub loop-ticket-preserved : goal.loop-ticket-preserved
loop-ticket-preserved c =
    c.acts_go_on.ensures.shifts c.args.self.now c.loop-ticket.self c.wake.new.self c.loop-ticket.invariant
    c.wake.ensures.shifts

pub returns-in_err-wake : goal.returns-in_err-wake
returns-in_err-wake c =
    record {
      shifts = c.acts_go_on.ensures.shifts c.args.self.now c.loop-ticket.self c.wake.new.self c.loop-ticket.invariant
          c.wake.ensures.shifts;
    }
