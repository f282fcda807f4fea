-- A member begins its next statement.
use Rattle.std.specs.Prelude.{◌≡◌, ◌⊎◌, ◌==◌, ◌&&◌, ◌||◌, ℕ, ◌+◌, ◌*◌, Bool, true, false, List, [], ◌∷◌, ◌++◌, map}
use Rattle.std.specs.Prelude.{length, Option, Some, None, suc, if◌then◌else◌}
use Rattle.std.specs.List.{list_any}
use Rattle.ent_value.specs.declared.value.Value.{Value}
use Rattle.ent_lock.specs.Mode.{mode_rank}
use Rattle.ent_semantics.specs.declared.entangled.Entangled.{Entangled}
use Rattle.ent_semantics.specs.declared.statement.Statement.{Statement}
use Rattle.ent_semantics.specs.Pool.{Posted, Unsafe, IsSafe, IsFirstUnsafe}
use Rattle.ent_protocol.specs.Commit.{preparing, is_ready, committing, committing_members, commit_numbers}
use Rattle.ent_protocol.specs.Event.{Reply}
use Rattle.ent_protocol.specs.Event as replies
use Rattle.ent_protocol.specs.Job.{Job, One}
use Rattle.ent_protocol.specs.Member.{Next, Ordinary, Asks, Commits, RollsBack}
use Rattle.ent_protocol.specs.Member.{next_of, is_prepared, is_lent, posted_as}
use Rattle.ent_protocol.specs.Member.{active_member, pool, seen_now}
use Rattle.ent_protocol.specs.Rollback.{Asked, rolled_back, group_numbers}
use Rattle.ent_protocol.specs.State.{State, Member, Use, inserted}
use Rattle.ent_protocol.specs.Uses.{statement_uses, entangled_uses, blocker}

-- ---- uses

abbrev pub same_use : Use → Use → Bool
same_use one other = (one.table == other.table) && (mode_rank one.mode == mode_rank other.mode)

-- uses come by table, of one table the shared one first
abbrev pub use_rank : Use → ℕ
use_rank own = own.table * 2 + mode_rank own.mode

-- each use once
abbrev pub with_uses : List Use → List Use → List Use
with_uses [] held = held
with_uses (asked ∷ more) held =
    with_uses more (if list_any (same_use asked) held then held else inserted use_rank asked held)

-- another in the place of the member of its number
abbrev pub replaced : Member → Member → Member
replaced new other = if other.tx == new.tx then new else other

abbrev pub with_member : Member → State → State
with_member new s = record s { active = map (replaced new) s.active }

-- a member holds the uses that its next statement asks for
abbrev pub holding : Member → List Use → Member
holding member asked = record member { uses = with_uses asked member.uses }

-- ---- what is lent, and posted

abbrev pub single_job : State → Member → Statement Value → Job
single_job s member statement =
    record {
      work = One (record {
        tx = member.tx;
        attempt = member.attempt;
        place = member.place;
        statement = statement;
      });
      tables = seen_now s.opening.tables s.tables (statement_uses statement);
    }

abbrev pub lending : State → Member → Statement Value → State
lending s member statement =
    let holds = with_member (holding member (statement_uses statement)) s in
    record holds { lent = s.lent ++ single_job s member statement ∷ [] }

abbrev pub posting : State → Member → Entangled Value → State
posting s member statement =
    with_member (record (holding member (entangled_uses statement)) { posted = true }) s

-- the pool with one statement more
abbrev pub pool_with : State → Member → Entangled Value → List Posted
pool_with s member statement =
    pool s ++ posted_as member statement ∷ []

module _ {F : Type 0} where
  -- a reply, and the state as it was
  abbrev pub Refuses : State → Reply F → Reply F → State → Type 0
  Refuses s is reply new = (reply ≡ is) × (new ≡ s)

  abbrev pub BeginsOrdinary : State → Member → Statement Value → Option ℕ → Reply F → State → Type 0
  BeginsOrdinary s member statement (Some holder) reply new = Refuses s (replies.Blocked holder) reply new
  BeginsOrdinary s member statement None reply new =
      (reply ≡ replies.Lent (single_job s member statement)) × (new ≡ lending s member statement)

  -- it is held back where the pool would be unsafe, with the first unsafe post
  abbrev pub Posts : State → Member → Entangled Value → Reply F → State → Type 0
  Posts s member statement reply new =
      (IsSafe (pool_with s member statement) × (reply ≡ replies.Posted) × (new ≡ posting s member statement))
      ⊎ ((fault : Unsafe) × IsFirstUnsafe (pool_with s member statement) fault
      × Refuses s (replies.HeldBack fault) reply new)

  abbrev pub BeginsEntangled : State → Member → Entangled Value → Option ℕ → Reply F → State → Type 0
  BeginsEntangled s member statement (Some holder) reply new = Refuses s (replies.Blocked holder) reply new
  BeginsEntangled s member statement None reply new = Posts s member statement reply new

  -- where every member of its group is prepared now, the group commits
  abbrev pub BeginsCommit : State → ℕ → Bool → Reply F → State → Type 0
  BeginsCommit prepared group true reply new =
      (reply ≡ replies.Committed (commit_numbers (suc (length prepared.journal)) (committing_members prepared group)))
      × (new ≡ committing prepared group)
  BeginsCommit prepared group false reply new = (reply ≡ replies.Prepared) × (new ≡ prepared)

  abbrev pub BeginsNext : State → Member → Next → Reply F → State → Type 0
  BeginsNext s member (Ordinary statement) reply new =
      BeginsOrdinary s member statement (blocker s member (statement_uses statement)) reply new
  BeginsNext s member (Asks statement) reply new =
      BeginsEntangled s member statement (blocker s member (entangled_uses statement)) reply new
  BeginsNext s member Commits reply new =
      BeginsCommit (preparing s member) member.group (is_ready (preparing s member) member.group) reply new
  BeginsNext s member RollsBack reply new =
      (reply ≡ replies.RolledBack (group_numbers s member.group))
      × (new ≡ rolled_back member.group (Asked member.tx) s)

  -- not while it is posted, or its job is out
  abbrev pub BeginsUnless : Bool → State → Member → Reply F → State → Type 0
  BeginsUnless true s member reply new = Refuses s replies.NotNow reply new
  BeginsUnless false s member reply new = BeginsNext s member (next_of s member) reply new

  abbrev pub BeginsMember : State → ℕ → Option Member → Reply F → State → Type 0
  BeginsMember s tx (Some member) reply new = BeginsUnless (member.posted || is_lent s tx) s member reply new
  BeginsMember s tx None reply new =
      Refuses s (if is_prepared s tx then replies.NotNow else replies.Absent) reply new

  -- the member of this number begins its next statement
  abbrev pub Begins : State → ℕ → Reply F → State → Type 0
  Begins s tx reply new = BeginsMember s tx (active_member s tx) reply new
