use Rattle.std.proofs.Common.{◌≡◌, drop}
use Rattle.ent_page.specs.Read.{past_values}
use Rattle.ent_page.proofs.stored_row.past_cells.Given as goal

abbrev pub invariant-loop-kind : goal.invariant-loop-kind
invariant-loop-kind l = past_values (drop l.kind-index l.kinds) l.left ≡ past_values l.kinds l.key
