use Rattle.std.proofs.Common.{sym, subst}
use Rattle.ent_room.specs.Acts.{Advances}
use Rattle.ent_room.specs.Room.{Room}
use Rattle.ent_room.proofs.room.Room.next_turn.Goals as goal

pub returns-in_err-tell_changes-clause-advances : goal.returns-in_err-tell_changes-clause-advances
returns-in_err-tell_changes-clause-advances c =
    c.acts_go_on.ensures.shifting c.args.self.now c.tell_changes.new.self c.tell_changes.ensures.shifts

pub returns-in_err-ran-clause-advances : goal.returns-in_err-ran-clause-advances
returns-in_err-ran-clause-advances c =
    c.acts_go_on.ensures.advances c.args.self.now c.tell_changes.new.self c.take_turn.new.self
    (c.acts_go_on.ensures.shifting c.args.self.now c.tell_changes.new.self c.tell_changes.ensures.shifts)
    (subst (λ (x : Room). Advances x c.take_turn.new.self) c.whose_turn.ensures.same c.take_turn.ensures.advances)

pub returns-in_default-clause-advances : goal.returns-in_default-clause-advances
returns-in_default-clause-advances c =
    subst (λ (x : Room). Advances c.args.self.now x) (sym c.whose_turn.ensures.same)
    (c.acts_go_on.ensures.shifting c.args.self.now c.tell_changes.new.self c.tell_changes.ensures.shifts)

pub returns-clause-advances : goal.returns-clause-advances
returns-clause-advances c =
    c.acts_go_on.ensures.advances c.args.self.now c.tell_changes.new.self c.take_turn.new.self
    (c.acts_go_on.ensures.shifting c.args.self.now c.tell_changes.new.self c.tell_changes.ensures.shifts)
    (subst (λ (x : Room). Advances x c.take_turn.new.self) c.whose_turn.ensures.same c.take_turn.ensures.advances)
