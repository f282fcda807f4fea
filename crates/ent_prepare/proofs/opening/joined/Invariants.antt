use Rattle.std.proofs.Common.{◌≡◌, ◌++◌}
use Rattle.ent_prepare.proofs.opening.joined.Given as goal

-- those so far stand behind the first
abbrev pub invariant-loop-row : goal.invariant-loop-row
invariant-loop-row l = record {
  all : l.all ≡ l.fn.first ++ l.yielded;
  rest : l.yielded ++ l.row-iterator.rest.items ≡ l.fn.others;
}
