use Rattle.std.proofs.Common.{◌≡◌, map, drop}
use Rattle.ent_semantics.specs.Database.{is_among}
use Rattle.ent_form.proofs.scope.is_among.Given as goal

-- the name is looked for among the rest
abbrev pub invariant-loop-other : goal.invariant-loop-other
invariant-loop-other l = is_among (map (λ other. other.now) (drop l.other-index l.names)) l.name
    ≡ is_among (map (λ other. other.now) l.names) l.name
