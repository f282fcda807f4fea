-- Pools of the same statements, in whatever order.
use Rattle.std.specs.Prelude.{◌↔◌, List, Contains}
use Rattle.ent_semantics.specs.Pool.{Posted}

abbrev pub SameStatements : List Posted → List Posted → Type 0
SameStatements pool other = (member : Posted) → Contains pool member ↔ Contains other member
