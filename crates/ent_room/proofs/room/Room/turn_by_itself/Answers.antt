use Rattle.std.proofs.Common.{◌+◌}
use Rattle.ent_room.proofs.Epochs.{rests_turned}
use Rattle.ent_room.proofs.room.Room.turn_by_itself.Goals as goal

pub returns-in-Ok-clause-at_rest : goal.returns-in-Ok-clause-at_rest
returns-in-Ok-clause-at_rest c =
    let old = c.args.self.now.admission in
    let new = c.turn.new.self.admission in
    rests_turned old new (old.epoch.number + 1) new.epoch.core.opening c.requires.at_rest c.in-Ok.ensures.begun
    c.turn.ensures.list c.turn.ensures.coming c.turn.ensures.news
