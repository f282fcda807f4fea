use Rattle.std.proofs.Common.{◌∙◌}
use Rattle.ent_meet.proofs.Ended.{last_ended}
use Rattle.ent_meet.proofs.stepping.keep_last.Goals as goal

pub returns-clause-books : goal.returns-clause-books
returns-clause-books c =
    last_ended c.args.room.now.admission.epoch c.in-Some.last.now c.args.epochs.now.items c.keep.new.epochs.items
    c.in-Some.ensures.follows c.requires.ended c.requires.before c.in_ok-keep.ensures
