use Rattle.ent_room.proofs.room.Room.step.Goals as goal

pub returns-in_err-ordinary-clause-advances : goal.returns-in_err-ordinary-clause-advances
returns-in_err-ordinary-clause-advances c =
    c.acts_go_on.ensures.advances c.args.self.now c.finish.new.self c.make_all_ordinary.new.self
    c.finish.ensures.advances c.make_all_ordinary.ensures.advances

pub returns-in_err-meetings-clause-advances : goal.returns-in_err-meetings-clause-advances
returns-in_err-meetings-clause-advances c =
    c.acts_go_on.ensures.advances c.args.self.now c.make_all_ordinary.new.self c.take_turns.new.self
    (c.acts_go_on.ensures.advances c.args.self.now c.finish.new.self c.make_all_ordinary.new.self
    c.finish.ensures.advances c.make_all_ordinary.ensures.advances)
    c.take_turns.ensures.advances

pub returns-clause-advances : goal.returns-clause-advances
returns-clause-advances c =
    c.acts_go_on.ensures.advances c.args.self.now c.make_all_ordinary.new.self c.take_turns.new.self
    (c.acts_go_on.ensures.advances c.args.self.now c.finish.new.self c.make_all_ordinary.new.self
    c.finish.ensures.advances c.make_all_ordinary.ensures.advances)
    c.take_turns.ensures.advances
