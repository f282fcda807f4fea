use Rattle.ent_room.proofs.room.Room.further.Goals as goal

pub resting-preserved : goal.resting-preserved
resting-preserved c =
    c.acts_go_on.ensures.shifts c.args.self.now c.resting.self c.resume.new.self c.resting.invariant
    c.resume.ensures.shifts

pub returns-in_err-resume : goal.returns-in_err-resume
returns-in_err-resume c =
    record {
      shifts = c.acts_go_on.ensures.shifts c.args.self.now c.resting.self c.resume.new.self c.resting.invariant
          c.resume.ensures.shifts;
    }

pub returns-in-None : goal.returns-in-None
returns-in-None c =
    record {
      shifts = c.acts_go_on.ensures.shifts c.args.self.now c.resting.self c.resume.new.self c.resting.invariant
          c.resume.ensures.shifts;
    }
