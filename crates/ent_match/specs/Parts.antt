-- Parts of a pool, which nothing joins to the rest of it.
use Rattle.std.specs.Prelude.{List, Contains}
use Rattle.ent_semantics.specs.Component.{AreJoined}
use Rattle.ent_semantics.specs.Pool.{Posted}

-- some of the statements of a pool, and with each all those that are joined to it
pub record IsPart (pool part : List Posted) : Type 0 where
  pub within : (member : Posted) → Contains part member → Contains pool member
  pub joined : (one other : Posted) → Contains part one → Contains pool other → AreJoined one other
      → Contains part other
