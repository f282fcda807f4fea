use Rattle.std.proofs.Common.{◌≡◌, drop}
use Rattle.std.specs.List.{flat_map, list_any}
use Rattle.ent_bound.specs.Values.{is_variable}
use Rattle.ent_bound.proofs.list.LimitedPart.uses.Given as goal

-- the name is looked for among the values of the rest
abbrev pub invariant-loop-part : goal.invariant-loop-part
invariant-loop-part g l =
    list_any (is_variable l.name) (flat_map g.T.Part.values (drop l.part-index l.part-items))
    ≡ list_any (is_variable l.name) (flat_map g.T.Part.values l.self)
