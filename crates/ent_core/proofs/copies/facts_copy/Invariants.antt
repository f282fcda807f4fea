use Rattle.std.proofs.Common.{◌≡◌, take}
use Rattle.ent_core.proofs.copies.facts_copy.Given as goal

-- the facts so far
abbrev pub invariant-loop-fact : goal.invariant-loop-fact
invariant-loop-fact l = l.copies.items ≡ take l.fact-index l.facts
