use Rattle.std.proofs.Common.{◌≡◌, take, map}
use Rattle.ent_members.specs.Answered.{answer_tx}
use Rattle.ent_run.proofs.answer.numbers_of.Given as goal

abbrev pub invariant-loop-own : goal.invariant-loop-own
invariant-loop-own l = l.numbers.items ≡ map answer_tx (take l.own-index l.given)
