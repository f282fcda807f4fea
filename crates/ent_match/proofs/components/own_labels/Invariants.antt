use Rattle.ent_match.specs.Labels.{AreOwnLabels}
use Rattle.ent_match.proofs.components.own_labels.Given as goal

-- the places so far
abbrev pub invariant-loop-place : goal.invariant-loop-place
invariant-loop-place l = AreOwnLabels l.place l.labels.items
