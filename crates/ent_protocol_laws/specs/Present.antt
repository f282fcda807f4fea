-- Uses that members hold, and what lent jobs saw.
use Rattle.std.specs.Prelude.{◌≡◌, ◌≢◌, ℕ, true, false, List, Contains, slice_index_or}
use Rattle.ent_lists.specs.Sets as set
use Rattle.ent_semantics.specs.Form.{Tables}
use Rattle.ent_semantics.specs.Pool.{Posted}
use Rattle.ent_protocol.specs.Job.{Job, Single, One, Joint, tables_of}
use Rattle.ent_protocol.specs.Member.{Ordinary, next_of}
use Rattle.ent_protocol.specs.PoolEvents.{IsPresentComponent}
use Rattle.ent_protocol.specs.State.{State, Member, Use, members}
use Rattle.ent_protocol.specs.Uses.{statement_uses, entangled_uses}
use Rattle.ent_protocol_laws.specs.Faithful.{is_used, is_owned}

-- no table that one holds exclusively is used by the other
abbrev pub AreApart : Member → Member → Type 0
AreApart one other =
    (table : ℕ) → (is_owned one.uses table ≡ true → is_used other.uses table ≡ false)
    × (is_owned other.uses table ≡ true → is_used one.uses table ≡ false)

-- members of two groups hold no conflicting uses, and neither do two members that aren't prepared
pub record UsesAreApart (s : State) : Type 0 where
  pub groups : (one other : Member) → Contains (members s) one → Contains (members s) other
      → one.group ≢ other.group → AreApart one other
  pub active : (one other : Member) → Contains s.active one → Contains s.active other → one.tx ≢ other.tx
      → AreApart one other

-- tables that are used have the same rows in two lists of tables
abbrev pub SameWhereUsed : List Use → Tables → Tables → Type 0
SameWhereUsed uses one other =
    (table : ℕ) → is_used uses table ≡ true
    → slice_index_or one table set.empty ≡ slice_index_or other table set.empty

-- the job of one statement: its member stands before it, and the tables that it uses are the present ones
pub record IsPresentSingle (s : State) (job : Job) (single : Single) : Type 0 where
  pub member : Member
  pub active : Contains s.active member
  pub own : member.tx ≡ single.tx
  pub unposted : member.posted ≡ false
  pub next : next_of s member ≡ Ordinary single.statement
  pub same : SameWhereUsed (statement_uses single.statement) (tables_of job.tables) s.tables

pub record LentIsPresent (s : State) : Type 0 where
  pub single : (job : Job) (single : Single) → Contains s.lent job → job.work ≡ One single
      → IsPresentSingle s job single
  -- a joint job whose members are exactly a component: the tables that they use are the present ones
  pub joint : (job : Job) (asked : List Posted) → Contains s.lent job → job.work ≡ Joint asked
      → IsPresentComponent s asked → (query : Posted) → Contains asked query
      → SameWhereUsed (entangled_uses query.statement) (tables_of job.tables) s.tables
