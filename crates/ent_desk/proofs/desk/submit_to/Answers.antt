use Rattle.ent_desk.proofs.Counting.{submits_only}
use Rattle.ent_desk.proofs.desk.submit_to.Goals as goal

pub unreachable-requires : goal.unreachable-requires
unreachable-requires c =
    submits_only c.args.core.now c.submit.new.self c.args.script c.in-Ok.reply c.requires.room
    c.in_default.not-Submitted c.in_default.not-Faulty c.in-Ok.ensures.ok
