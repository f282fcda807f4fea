use Rattle.std.proofs.Common.{◌≡◌, take}
use Rattle.std.specs.List.{flat_map}
use Rattle.ent_plan.specs.Tables.{sources_of}
use Rattle.ent_plan.proofs.table.tables_of.Given as goal

-- the tables of the members so far
abbrev pub invariant-loop-member : goal.invariant-loop-member
invariant-loop-member l =
    l.tables.items ≡ flat_map (λ member. sources_of member.statement) (take l.member-index l.members)
