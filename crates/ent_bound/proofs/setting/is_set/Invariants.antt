use Rattle.std.proofs.Common.{◌≡◌, drop}
use Rattle.std.specs.List.{flat_map}
use Rattle.ent_semantics.specs.Database.{is_among}
use Rattle.ent_bound.specs.Values.{statement_sets}
use Rattle.ent_bound.proofs.setting.is_set.Given as goal

-- the name is looked for among what the rest sets
abbrev pub invariant-loop-statement : goal.invariant-loop-statement
invariant-loop-statement l = is_among (flat_map statement_sets (drop l.statement-index l.statement-items)) l.name
    ≡ is_among (flat_map statement_sets l.script.statements) l.name
