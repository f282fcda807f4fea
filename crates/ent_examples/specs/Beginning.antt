-- What a transaction is answered that begins its next statement, and what then becomes of the state: a table, with a
-- constructor for each of its rows.
use Rattle.std.specs.Prelude.{◌≡◌, ◌≢◌, ◌⊎◌, ◌≤◌, ℕ, suc, true, false, List, length, Some, None, Contains}
use Rattle.ent_value.specs.declared.value.Value.{Value}
use Rattle.ent_semantics.specs.declared.entangled.Entangled.{Entangled}
use Rattle.ent_semantics.specs.declared.statement.Statement.{Statement}
use Rattle.ent_semantics.specs.Pool.{Unsafe, IsSafe, IsFirstUnsafe}
use Rattle.ent_protocol.specs.Begin.{single_job, lending, pool_with, posting}
use Rattle.ent_protocol.specs.Commit.{preparing, committing, committing_members, commit_numbers}
use Rattle.ent_protocol.specs.Event.{Reply}
use Rattle.ent_protocol.specs.Event as replies
use Rattle.ent_protocol.specs.Member.{Next, Ordinary, Asks, Commits, RollsBack, next_of, active_member, is_prepared}
use Rattle.ent_protocol.specs.Member.{is_lent}
use Rattle.ent_protocol.specs.Rollback.{Asked, rolled_back, group_numbers}
use Rattle.ent_protocol.specs.State.{State, Member, Use, members}
use Rattle.ent_protocol.specs.Uses.{statement_uses, entangled_uses, uses_conflict}

-- ---- who may begin

-- no member of the run has this number
abbrev pub IsNoMember : State → ℕ → Type 0
IsNoMember s tx = (member : Member) → Contains (members s) member → member.tx ≢ tx

-- the member of this number is posted, prepared, or its job is out
pub data IsBusy (s : State) (tx : ℕ) : Type 0 where
  is_posted : (member : Member) → active_member s tx ≡ Some member → member.posted ≡ true → IsBusy s tx
  has_prepared : active_member s tx ≡ None → is_prepared s tx ≡ true → IsBusy s tx
  is_out : (member : Member) → active_member s tx ≡ Some member → is_lent s tx ≡ true → IsBusy s tx

-- a member that is none of these, and what comes next in its script
pub record IsBefore (s : State) (tx : ℕ) (member : Member) (next : Next) : Type 0 where
  pub is_member : active_member s tx ≡ Some member
  pub not_posted : member.posted ≡ false
  pub not_out : is_lent s tx ≡ false
  pub is_next : next_of s member ≡ next

-- ---- who blocks a member

-- a member holds a use that conflicts with one of those that are asked for
pub record HoldsConflict (asked : List Use) (holder : Member) : Type 0 where
  pub own : Use
  pub held : Use
  pub is_asked : Contains asked own
  pub is_held : Contains holder.uses held
  pub conflict : uses_conflict own held ≡ true

-- all members count but the asker itself, and the prepared ones of its group, which it may pass
abbrev pub Counts : State → Member → Member → Type 0
Counts s asker holder =
    (Contains s.prepared holder × (holder.group ≢ asker.group)) ⊎ (Contains s.active holder × (holder.tx ≢ asker.tx))

-- a member that counts holds a use in conflict
abbrev pub Blocks : State → Member → List Use → Member → Type 0
Blocks s asker asked holder = Counts s asker holder × HoldsConflict asked holder

-- this transaction blocks it, and no lesser one does
pub record IsBlockedBy (s : State) (asker : Member) (asked : List Use) (tx : ℕ) : Type 0 where
  pub holder : Member
  pub blocks : Blocks s asker asked holder
  pub is_tx : holder.tx ≡ tx
  pub least : (other : Member) → Blocks s asker asked other → tx ≤ other.tx

-- no member blocks it
abbrev pub NobodyBlocks : State → Member → List Use → Type 0
NobodyBlocks s asker asked = (holder : Member) → Blocks s asker asked holder → ⊥

-- ---- commit

-- all other members of its group are prepared
abbrev pub OthersArePrepared : State → Member → Type 0
OthersArePrepared s member =
    (other : Member) → Contains s.active other → other.group ≡ member.group → other.tx ≡ member.tx

-- another member of its group isn't prepared
abbrev pub WaitsForOther : State → Member → Type 0
WaitsForOther s member =
    (other : Member) × Contains s.active other × (other.group ≡ member.group) × (other.tx ≢ member.tx)

-- the journal's new entries where a group commits: their numbers, and whose they are, in order of preparing
abbrev pub new_entries : State → ℕ → List (ℕ × ℕ)
new_entries s group = commit_numbers (suc (length s.journal)) (committing_members s group)

-- ---- the table

module _ {F : Type 0} where
  pub data BeginsByRow (s : State) (tx : ℕ) : Reply F → State → Type 0 where
    absent : IsNoMember s tx → BeginsByRow s tx replies.Absent s
    not_now : IsBusy s tx → BeginsByRow s tx replies.NotNow s
    -- an ordinary statement
    blocked : (member : Member) (statement : Statement Value) (holder : ℕ)
        → IsBefore s tx member (Ordinary statement)
        → IsBlockedBy s member (statement_uses statement) holder
        → BeginsByRow s tx (replies.Blocked holder) s
    lent : (member : Member) (statement : Statement Value)
        → IsBefore s tx member (Ordinary statement)
        → NobodyBlocks s member (statement_uses statement)
        → BeginsByRow s tx (replies.Lent (single_job s member statement)) (lending s member statement)
    -- an entangled statement
    asks_blocked : (member : Member) (statement : Entangled Value) (holder : ℕ)
        → IsBefore s tx member (Asks statement)
        → IsBlockedBy s member (entangled_uses statement) holder
        → BeginsByRow s tx (replies.Blocked holder) s
    held_back : (member : Member) (statement : Entangled Value) (fault : Unsafe)
        → IsBefore s tx member (Asks statement)
        → NobodyBlocks s member (entangled_uses statement)
        → IsFirstUnsafe (pool_with s member statement) fault
        → BeginsByRow s tx (replies.HeldBack fault) s
    posted : (member : Member) (statement : Entangled Value)
        → IsBefore s tx member (Asks statement)
        → NobodyBlocks s member (entangled_uses statement)
        → IsSafe (pool_with s member statement)
        → BeginsByRow s tx replies.Posted (posting s member statement)
    -- COMMIT
    committed : (member : Member)
        → IsBefore s tx member Commits
        → OthersArePrepared s member
        → BeginsByRow s tx (replies.Committed (new_entries (preparing s member) member.group))
        (committing (preparing s member) member.group)
    prepared : (member : Member)
        → IsBefore s tx member Commits
        → WaitsForOther s member
        → BeginsByRow s tx replies.Prepared (preparing s member)
    -- ROLLBACK
    rolls_back : (member : Member)
        → IsBefore s tx member RollsBack
        → BeginsByRow s tx (replies.RolledBack (group_numbers s member.group))
        (rolled_back member.group (Asked member.tx) s)
