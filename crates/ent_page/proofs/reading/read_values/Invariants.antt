use Rattle.std.proofs.Common.{◌≡◌, ◌++◌, drop}
use Rattle.ent_page.specs.Read.{row_from}
use Rattle.ent_page.proofs.reading.read_values.Given as goal

abbrev pub invariant-loop-kind : goal.invariant-loop-kind
invariant-loop-kind l = l.values.items ++ row_from (drop l.kind-index l.kinds) l.left ≡ row_from l.kinds l.key
