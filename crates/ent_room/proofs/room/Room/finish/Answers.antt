use Rattle.ent_room.proofs.room.Room.finish.Goals as goal

pub returns-in_err-noted-clause-advances : goal.returns-in_err-noted-clause-advances
returns-in_err-noted-clause-advances c =
    c.acts_go_on.ensures.advances c.args.self.now c.end.new.self c.note_last.new.self c.end.ensures.advances
    (c.acts_go_on.ensures.shifting c.end.new.self c.note_last.new.self c.note_last.ensures.shifts)

pub returns-clause-advances : goal.returns-clause-advances
returns-clause-advances c =
    c.acts_go_on.ensures.advances c.args.self.now c.end.new.self c.note_last.new.self c.end.ensures.advances
    (c.acts_go_on.ensures.shifting c.end.new.self c.note_last.new.self c.note_last.ensures.shifts)
