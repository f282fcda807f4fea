use Rattle.std.proofs.Common.{◌≡◌, map}
use Rattle.ent_sql.specs.Entangling.{unbound}
use Rattle.ent_sql.proofs.entangling.unbound_items.Given as goal

-- the items of the operands that were taken
abbrev pub invariant-loop-operand : goal.invariant-loop-operand
invariant-loop-operand l = l.items ≡ map unbound l.yielded
