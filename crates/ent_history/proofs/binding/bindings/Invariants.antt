use Rattle.std.proofs.Common.{◌≡◌, drop}
use Rattle.ent_history.specs.Bindings.{bindings_at}
use Rattle.ent_history.proofs.Bindings.{with_values}
use Rattle.ent_history.proofs.binding.bindings.Given as goal

-- what was read and what is left are all
abbrev pub invariant-loop-name : goal.invariant-loop-name
invariant-loop-name l = with_values l.values (bindings_at (drop l.name-index l.names) l.rest) ≡ bindings_at l.names
    l.bytes
