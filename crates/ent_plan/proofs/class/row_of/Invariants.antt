use Rattle.ent_unify.specs.Unifier.{kinds_seen}
use Rattle.ent_plan.specs.Classes.{IsSlotRowTo}
use Rattle.ent_plan.proofs.class.row_of.Given as goal

-- the slots of the variables so far
abbrev pub invariant-loop-index : goal.invariant-loop-index
invariant-loop-index l =
    IsSlotRowTo l.unifier (kinds_seen l.kinds) l.member l.index l.fn.classes.items l.classes.items l.slots
