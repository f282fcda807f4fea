use Rattle.ent_room.proofs.room.Room.make_all_ordinary.Goals as goal

pub returns-in_err-make_ordinary-clause-advances : goal.returns-in_err-make_ordinary-clause-advances
returns-in_err-make_ordinary-clause-advances c =
    c.acts_go_on.ensures.advances c.args.self.now c.runs.self c.make_ordinary.new.self c.runs.invariant.advances
    c.make_ordinary.ensures.advances

pub returns-then-not-branch-clause-advances : goal.returns-then-not-branch-clause-advances
returns-then-not-branch-clause-advances c =
    c.acts_go_on.ensures.advances c.args.self.now c.runs.self c.make_ordinary.new.self c.runs.invariant.advances
    c.make_ordinary.ensures.advances

pub runs-preserved : goal.runs-preserved
runs-preserved c =
    record {
      advances = c.acts_go_on.ensures.advances c.args.self.now c.runs.self c.make_ordinary.new.self c.runs.invariant.advances
          c.make_ordinary.ensures.advances;
      at_rest = c.in_ok-make_ordinary.ensures.at_rest;
    }
