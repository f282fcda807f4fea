use Rattle.std.proofs.Common.{subst}
use Rattle.ent_room.specs.Acts.{Advances}
use Rattle.ent_room.specs.Room.{Room}
use Rattle.ent_room.proofs.room.Room.make.Goals as goal

pub returns-in_err-finish-clause-advances : goal.returns-in_err-finish-clause-advances
returns-in_err-finish-clause-advances c =
    c.acts_go_on.ensures.advances c.args.self.now c.plan.new.self c.finish.new.self c.plan.ensures.advances
    (subst (λ (x : Room). Advances x c.finish.new.self) c.begin.ensures.same c.finish.ensures.advances)

pub returns-clause-advances : goal.returns-clause-advances
returns-clause-advances c =
    c.acts_go_on.ensures.advances c.args.self.now c.plan.new.self c.finish.new.self c.plan.ensures.advances
    (subst (λ (x : Room). Advances x c.finish.new.self) c.begin.ensures.same c.finish.ensures.advances)
