use Rattle.std.proofs.Common.{◌≡◌, take, map}
use Rattle.ent_semantics.specs.Form.{atom_fact}
use Rattle.ent_ordinary.specs.Worth.{itself}
use Rattle.ent_check.proofs.facts.facts_of.Given as goal

-- the facts so far
abbrev pub invariant-loop-atom : goal.invariant-loop-atom
invariant-loop-atom l = l.facts.items ≡ map (atom_fact itself l.grounding) (take l.atom-index l.atoms)
