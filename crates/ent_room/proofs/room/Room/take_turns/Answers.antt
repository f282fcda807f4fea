use Rattle.ent_room.proofs.room.Room.take_turns.Goals as goal

pub returns-in_err-made-clause-advances : goal.returns-in_err-made-clause-advances
returns-in_err-made-clause-advances c =
    c.acts_go_on.ensures.advances c.args.self.now c.turns.self c.next_turn.new.self c.turns.invariant.advances
    c.next_turn.ensures.advances

pub returns-in_default-clause-advances : goal.returns-in_default-clause-advances
returns-in_default-clause-advances c =
    c.acts_go_on.ensures.advances c.args.self.now c.turns.self c.next_turn.new.self c.turns.invariant.advances
    c.next_turn.ensures.advances

pub turns-preserved : goal.turns-preserved
turns-preserved c =
    record {
      advances = c.acts_go_on.ensures.advances c.args.self.now c.turns.self c.next_turn.new.self c.turns.invariant.advances
          c.next_turn.ensures.advances;
      at_rest = c.in_ok-made.ensures.at_rest;
    }
