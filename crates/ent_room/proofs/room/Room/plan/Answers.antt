use Rattle.ent_room.proofs.room.Room.plan.Goals as goal

pub returns-in-Ok-clause-advances : goal.returns-in-Ok-clause-advances
returns-in-Ok-clause-advances c =
    c.acts_go_on.ensures.advances c.args.self.now c.tries.self c.plan_once.new.self c.tries.invariant.advances
    c.plan_once.ensures.advances

pub returns-in_err-turn_by_itself-in-Err-Fault-MustTurn-clause-advances :
    goal.returns-in_err-turn_by_itself-in-Err-Fault-MustTurn-clause-advances
returns-in_err-turn_by_itself-in-Err-Fault-MustTurn-clause-advances c =
    c.acts_go_on.ensures.advances c.args.self.now c.plan_once.new.self c.turn_by_itself.new.self
    (c.acts_go_on.ensures.advances c.args.self.now c.tries.self c.plan_once.new.self c.tries.invariant.advances
    c.plan_once.ensures.advances)
    c.turn_by_itself.ensures.advances

pub tries-preserved : goal.tries-preserved
tries-preserved c =
    record {
      advances = c.acts_go_on.ensures.advances c.args.self.now c.plan_once.new.self c.turn_by_itself.new.self
          (c.acts_go_on.ensures.advances c.args.self.now c.tries.self c.plan_once.new.self c.tries.invariant.advances
          c.plan_once.ensures.advances)
          c.turn_by_itself.ensures.advances;
      at_rest = c.turn_by_itself.ensures.at_rest;
    }
