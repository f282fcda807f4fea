use Rattle.std.proofs.Common.{subst, sym}
use Rattle.ent_meet.specs.Epochs.{AreOfBooks}
use Rattle.ent_meet.proofs.stepping.rest.Goals as goal

pub steps-preserved : goal.steps-preserved
steps-preserved c =
    record {
      advances = c.acts_go_on.ensures.advances c.args.room.now.admission c.steps.room.admission
          c.step.new.room.admission c.steps.invariant.advances c.step.ensures.advances.acts;
      books = c.in_ok-keep_ended.ensures.books;
    }

pub returns-in-Idle-clause-rests : goal.returns-in-Idle-clause-rests
returns-in-Idle-clause-rests c =
    let idle = c.in_ok-stepped.ensures.idle c.in-Idle.is in
    record {
      advances = c.acts_go_on.ensures.advances c.args.room.now.admission c.steps.room.admission
          c.step.new.room.admission c.steps.invariant.advances c.step.ensures.advances.acts;
      resting = idle.1;
      at_rest = idle.0;
      books = subst (AreOfBooks 1 c.keep_ended.new.epochs.items) (sym c.in_ok-keep_ended.ensures.number)
          c.in_ok-keep_ended.ensures.books;
    }
