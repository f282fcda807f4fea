use Rattle.std.proofs.Common.{◌≡◌, ◌++◌, length}
use Rattle.ent_text.specs.Left.{tokens_left}
use Rattle.ent_within.specs.Said.{said_behind, scripts_said}
use Rattle.ent_within.proofs.saying.scripts_within.Given as goal

-- what is said so far, and by the tokens that are left, is what all say
abbrev pub invariant-loop-token : goal.invariant-loop-token
invariant-loop-token l = record {
  said : l.said.items ++ said_behind l.behind l.tokens ≡ scripts_said (tokens_left 0 l.fn.text);
}

-- the tokens that are left become fewer
abbrev pub decreases-loop-token : goal.decreases-loop-token
decreases-loop-token l = length l.tokens
