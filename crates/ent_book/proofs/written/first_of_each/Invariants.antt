use Rattle.std.proofs.Common.{◌≡◌}
use Rattle.ent_semantics.specs.Entangled.{first_of_each}
use Rattle.ent_book.proofs.written.first_of_each.Given as goal

-- the first of each of the names so far
abbrev pub invariant-loop-name : goal.invariant-loop-name
invariant-loop-name l = l.firsts.items ≡ first_of_each l.yielded
