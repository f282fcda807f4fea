use Rattle.std.proofs.Common.{subst}
use Rattle.ent_room.specs.Acts.{OnlyShifts}
use Rattle.ent_room.specs.Room.{Room}
use Rattle.ent_room.proofs.room.Room.pursue.Goals as goal

pub moves-preserved : goal.moves-preserved
moves-preserved c =
    c.acts_go_on.ensures.shifts c.args.self.now c.moves.self c.tell.new.self c.moves.invariant
    (subst (λ (x : Room). OnlyShifts x c.tell.new.self) c.next_move.ensures.same c.tell.ensures.shifts)

pub returns-in_err-tell : goal.returns-in_err-tell
returns-in_err-tell c =
    record {
      shifts = c.acts_go_on.ensures.shifts c.args.self.now c.moves.self c.tell.new.self c.moves.invariant
          (subst (λ (x : Room). OnlyShifts x c.tell.new.self) c.next_move.ensures.same c.tell.ensures.shifts);
    }
