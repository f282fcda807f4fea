use Rattle.std.proofs.Common.{◌≡◌, map, take}
use Rattle.ent_meet.proofs.tables.names_by_bytes.Given as goal

-- the names so far
abbrev pub invariant-loop-create : goal.invariant-loop-create
invariant-loop-create l = l.names.items ≡ map (λ create. create.name.name) (take l.create-index l.create-items)
