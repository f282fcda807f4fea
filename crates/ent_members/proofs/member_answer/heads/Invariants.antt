use Rattle.std.proofs.Common.{◌≡◌, take, map}
use Rattle.ent_semantics.specs.Form.{atom_fact}
use Rattle.ent_members.proofs.member_answer.heads.Given as goal

-- the heads so far
abbrev pub invariant-loop-atom : goal.invariant-loop-atom
invariant-loop-atom l = l.heads.items ≡ map (atom_fact (λ own. own) l.grounding) (take l.atom-index l.atom-items)
