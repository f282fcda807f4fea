use Rattle.ent_lists.specs.Elements.{FitBefore}
use Rattle.ent_meetings.specs.Pattern.{may_be_one}
use Rattle.ent_meetings.proofs.pattern.may_be_row.Given as goal

-- the terms so far fit
abbrev pub invariant-loop-index : goal.invariant-loop-index
invariant-loop-index l = FitBefore may_be_one l.demanded l.offered l.index
