use Rattle.ent_match.proofs.Beginning.{AreListed}
use Rattle.ent_match.proofs.components.components_by.Given as goal

-- the components that begin at the places so far
abbrev pub invariant-loop-place : goal.invariant-loop-place
invariant-loop-place l = AreListed l.members l.firsts l.place l.components.items
