use Rattle.ent_room.proofs.room.Room.tell_changes.Goals as goal

pub visits-preserved : goal.visits-preserved
visits-preserved c =
    c.acts_go_on.ensures.shifts c.args.self.now c.visits.self c.tell_change.new.self c.visits.invariant
    c.tell_change.ensures.shifts

pub returns-in_err-tell_change : goal.returns-in_err-tell_change
returns-in_err-tell_change c =
    record {
      shifts = c.acts_go_on.ensures.shifts c.args.self.now c.visits.self c.tell_change.new.self c.visits.invariant
          c.tell_change.ensures.shifts;
    }

pub returns-then-not-branch : goal.returns-then-not-branch
returns-then-not-branch c =
    record {
      shifts = c.acts_go_on.ensures.shifts c.args.self.now c.visits.self c.tell_change.new.self c.visits.invariant
          c.tell_change.ensures.shifts;
    }
