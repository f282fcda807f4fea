use Rattle.ent_room.proofs.room.Room.take_turn.Goals as goal

pub returns-in_err-next-clause-advances : goal.returns-in_err-next-clause-advances
returns-in_err-next-clause-advances c =
    c.acts_go_on.ensures.shifting c.args.self.now c.pursue.new.self c.pursue.ensures.shifts

pub returns-in_err-ran-clause-advances : goal.returns-in_err-ran-clause-advances
returns-in_err-ran-clause-advances c =
    c.acts_go_on.ensures.advances c.args.self.now c.pursue.new.self c.run_move.new.self
    (c.acts_go_on.ensures.shifting c.args.self.now c.pursue.new.self c.pursue.ensures.shifts)
    c.run_move.ensures.advances

pub returns-in_err-end_turn-clause-advances : goal.returns-in_err-end_turn-clause-advances
returns-in_err-end_turn-clause-advances c =
    c.acts_go_on.ensures.advances c.args.self.now c.run_move.new.self c.end_turn.new.self
    (c.acts_go_on.ensures.advances c.args.self.now c.pursue.new.self c.run_move.new.self
    (c.acts_go_on.ensures.shifting c.args.self.now c.pursue.new.self c.pursue.ensures.shifts)
    c.run_move.ensures.advances)
    (c.acts_go_on.ensures.shifting c.run_move.new.self c.end_turn.new.self c.end_turn.ensures.shifts)

pub returns-clause-advances : goal.returns-clause-advances
returns-clause-advances c =
    c.acts_go_on.ensures.advances c.args.self.now c.run_move.new.self c.end_turn.new.self
    (c.acts_go_on.ensures.advances c.args.self.now c.pursue.new.self c.run_move.new.self
    (c.acts_go_on.ensures.shifting c.args.self.now c.pursue.new.self c.pursue.ensures.shifts)
    c.run_move.ensures.advances)
    (c.acts_go_on.ensures.shifting c.run_move.new.self c.end_turn.new.self c.end_turn.ensures.shifts)
