-- Results that are outstanding: their jobs are lent, and members and tables are as they were when these were made.
use Rattle.std.specs.Prelude.{◌≡◌, List, Contains}
use Rattle.ent_semantics.specs.Pool.{Posted}
use Rattle.ent_protocol.specs.Event.{Reply, Stale}
use Rattle.ent_protocol.specs.Job.{Single, Done, One, Joint, tables_of}
use Rattle.ent_protocol.specs.PoolEvents.{IsPresentComponent}
use Rattle.ent_protocol.specs.State.{State}
use Rattle.ent_protocol.specs.Uses.{entangled_uses}
use Rattle.ent_protocol_laws.specs.Present.{IsPresentSingle, SameWhereUsed}
use Rattle.ent_protocol_laws.specs.Lent.{StandsBefore}

-- of one statement: a member of this transaction and attempt stands at this place, its next statement is this one, and
-- the tables that it uses are the present ones
pub record IsOutstanding (s : State) (done : Done) : Type 0 where
  pub single : Single
  pub is_single : done.job.work ≡ One single
  pub lent : Contains s.lent done.job
  pub before : StandsBefore s single
  pub present : IsPresentSingle s done.job single

-- of statements together: they are exactly a component of the pool, and the tables that they use are the present ones
pub record IsOutstandingTogether (s : State) (done : Done) : Type 0 where
  pub asked : List Posted
  pub is_joint : done.job.work ≡ Joint asked
  pub lent : Contains s.lent done.job
  pub component : IsPresentComponent s asked
  pub present : (query : Posted) → Contains asked query
      → SameWhereUsed (entangled_uses query.statement) (tables_of done.job.tables) s.tables

-- a result is handed back, and the state is as it was
abbrev pub IsHandedBack : {F : Type 0} → State → Done → Reply F → State → Type 0
IsHandedBack s done reply new = (reply ≡ Stale done) × (new ≡ s)
