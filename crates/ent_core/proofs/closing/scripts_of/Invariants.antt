use Rattle.std.proofs.Common.{◌≡◌, ◌≤◌, ◌+◌, ◌++◌, map, reverse, vec_len, vec_capacity}
use Rattle.ent_core.proofs.closing.scripts_of.Given as goal

-- what was moved stands in the other order, behind what is left
abbrev pub invariant-loop-own : goal.invariant-loop-own
invariant-loop-own l = record {
  moved : map (λ own. own.script) l.submitted.items ++ reverse l.scripts.items ≡ map (λ own. own.script)
      l.fn.submitted.items;
  room : vec_len l.submitted + vec_len l.scripts ≤ vec_capacity l.scripts;
}

abbrev pub decreases-loop-own : goal.decreases-loop-own
decreases-loop-own l = vec_len l.submitted
