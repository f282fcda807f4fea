use Rattle.ent_unify.specs.Unifier.{kinds_seen}
use Rattle.ent_plan.specs.Classes.{AreSlotRowsTo}
use Rattle.ent_plan.proofs.class.rows_of.Given as goal

-- the slots of the members so far
abbrev pub invariant-loop-member : goal.invariant-loop-member
invariant-loop-member l = AreSlotRowsTo l.unifier (kinds_seen l.kinds) l.member l.classes.items l.rows.items
