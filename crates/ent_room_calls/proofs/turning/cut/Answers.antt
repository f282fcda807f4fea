use Rattle.std.proofs.Common.{sym}
use Rattle.ent_room_calls.proofs.Words.{cut_here, whole}
use Rattle.ent_room_calls.proofs.turning.cut.Goals as goal

pub returns-in-Some-clause-cut : goal.returns-in-Some-clause-cut
returns-in-Some-clause-cut c = cut_here c.args.text.now c.in-Some.place (sym c.in-Some.ensures.first)

pub returns-in-None-clause-cut : goal.returns-in-None-clause-cut
returns-in-None-clause-cut c = whole c.args.text.now 0 (sym c.in-None.ensures.first)
