use Rattle.std.proofs.Common.{◌≡◌, take}
use Rattle.ent_core.proofs.copies.answers_copy.Given as goal

-- the answers so far
abbrev pub invariant-loop-answer : goal.invariant-loop-answer
invariant-loop-answer l = l.copies.items ≡ take l.answer-index l.answers
