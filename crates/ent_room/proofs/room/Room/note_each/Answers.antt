use Rattle.ent_room.proofs.room.Room.note_each.Goals as goal

pub loop-number-preserved : goal.loop-number-preserved
loop-number-preserved c =
    c.acts_go_on.ensures.shifts c.args.self.now c.loop-number.self c.note_one.new.self c.loop-number.invariant
    c.note_one.ensures.shifts

pub returns-in_err-note_one : goal.returns-in_err-note_one
returns-in_err-note_one c =
    record {
      shifts = c.acts_go_on.ensures.shifts c.args.self.now c.loop-number.self c.note_one.new.self c.loop-number.invariant
          c.note_one.ensures.shifts;
    }
