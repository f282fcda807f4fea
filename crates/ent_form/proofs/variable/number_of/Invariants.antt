use Rattle.std.proofs.Common.{◌≡◌, ◌+◌, map, drop}
use Rattle.ent_semantics.specs.Database.{index_of}
use Rattle.ent_form.proofs.variable.number_of.Given as goal

-- the name is looked for among the rest
abbrev pub invariant-loop-number : goal.invariant-loop-number
invariant-loop-number l = l.number + index_of (map (λ other. other.now) (drop l.number l.names)) l.name
    ≡ index_of (map (λ other. other.now) l.names) l.name
