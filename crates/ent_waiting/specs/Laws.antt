-- What holds of every world that is reached.
use Rattle.std.specs.Prelude.{◌≡◌, ◌≢◌, ◌≤◌, ◌+◌, ◌⊎◌, ℕ, List, [], ◌∷◌, ◌++◌, length}
use Rattle.std.specs.List.{AllByRecursion, flat_map}
use Rattle.ent_lists.specs.Elements.{In, Pairs}
use Rattle.ent_waiting.specs.Store.{Group, Waiter, Ended, Store, Write, Version, Waits, HasEnded, Fits}
use Rattle.ent_waiting.specs.Store.{tables_after, last_group}
use Rattle.ent_waiting.specs.World.{World, Claimant, asked, left_by}

-- ---- groups

-- the groups that the store has, in the order in which they were written
abbrev pub groups_of : {T C S E : Type 0} → World T C S E → List (Group C E)
groups_of world = flat_map (λ write. write.groups) world.history

-- the tickets that ended in the writes that went through, in this order
abbrev pub ended_of : {T C S E : Type 0} → World T C S E → List (Ended E)
ended_of world = flat_map (λ write. write.ended) world.history

-- each group has the number behind that of the group before
abbrev pub FollowOn : {C E : Type 0} → ℕ → List (Group C E) → Type 0
FollowOn before [] = Unit {0}
FollowOn before (group ∷ more) = (group.number ≡ before + 1) × FollowOn group.number more

-- The store's tables are the first ones after its groups, in order, each once, numbered from 1 without a gap. No group
-- is there by half: its members have ended there.
pub record HasItsGroups {T C S E : Type 0} (changed : C → T → T) (tables : T) (world : World T C S E) : Type 0 where
  pub exact : world.store.tables ≡ tables_after changed (groups_of world) tables
  pub numbers : FollowOn 0 (groups_of world)
  pub last : world.store.group ≡ length (groups_of world)
  pub whole : (group : Group C E) (one : Ended E) → In group (groups_of world) → In one group.members
      → In one world.store.ended

-- ---- writes

-- each write has the number behind that of the write before
abbrev pub NumberOn : {C S E : Type 0} → ℕ → List (Write C S E) → Type 0
NumberOn before [] = Unit {0}
NumberOn before (write ∷ more) = (write.number ≡ before + 1) × NumberOn write.number more

abbrev pub NotLaterClaim : {C S E : Type 0} → Write C S E → Write C S E → Type 0
NotLaterClaim write other = write.claim ≤ other.claim

-- the writes that went through are numbered from 1 without a gap, and no claimant writes after a later one
pub record AreOrdered {T C S E : Type 0} (world : World T C S E) : Type 0 where
  pub numbers : NumberOn 0 world.history
  pub last : world.store.write ≡ length world.history
  pub claims : Pairs NotLaterClaim world.history
  pub present : AllByRecursion (λ write. write.claim ≤ world.store.claim) world.history

-- a write of this version went through
pub record WentThrough {T C S E : Type 0} (world : World T C S E) (known : Version) : Type 0 where
  pub write : Write C S E
  pub there : In write world.history
  pub claim : write.claim ≡ known.claim
  pub number : write.number ≡ known.write

-- ---- what people were told

-- a ticket waits with its script, or has ended, and not both; no other script waits under it
pub record StandsOnce {T S E : Type 0} (store : Store T S E) (waiter : Waiter S) : Type 0 where
  pub stands : In waiter store.waiting ⊎ HasEnded store.ended waiter.ticket
  pub not_both : Waits store.waiting waiter.ticket → HasEnded store.ended waiter.ticket → ⊥
  pub only : (other : Waiter S) → In other store.waiting → other.ticket ≡ waiter.ticket → other ≡ waiter

-- a ticket ended so, and not otherwise, and doesn't wait
pub record HasThisEnding {T S E : Type 0} (store : Store T S E) (one : Ended E) : Type 0 where
  pub stands : In one store.ended
  pub only : (other : Ended E) → In other store.ended → other.ticket ≡ one.ticket → other ≡ one
  pub gone : Waits store.waiting one.ticket → ⊥

-- ---- what a claimant has in memory

-- Nothing that its room did since its last write is in the store: the room's tables are the store's after its groups.
-- Who waits in its room are those of the store and those who came, but for those who ended; so it is as good to write
-- these differences as to write the whole list.
pub record IsAhead {T C S E : Type 0} (changed : C → T → T) (store : Store T S E) (own : Claimant T C S E)
    : Type 0 where
  pub write : store.write ≡ own.write
  pub tables : own.tables ≡ tables_after changed own.groups store.tables
  pub numbers : FollowOn store.group own.groups
  pub last : own.group ≡ last_group own.groups store.group
  pub waiting : own.waiting ≡ left_by own.ended (store.waiting ++ own.given)

-- all that its room did is in the store, by the write that it sent last: the room's tables are the store's
pub record IsLevel {T C S E : Type 0} (store : Store T S E) (own : Claimant T C S E) : Type 0 where
  pub write : store.write ≡ own.write + 1
  pub tables : own.tables ≡ store.tables
  pub last : own.group ≡ store.group
  pub waiting : own.waiting ≡ store.waiting
  pub next : own.next ≡ store.next

-- nobody was told that a ticket ended, and it still waits in the store; or it was never written, and nobody was told it
pub record IsUntold {T C S E : Type 0} (world : World T C S E) (ticket : ℕ) : Type 0 where
  pub waits : Waits world.store.waiting ticket ⊎ (world.store.next ≤ ticket)
  pub new : world.store.next ≤ ticket → (waiter : Waiter S) → In waiter world.tickets → waiter.ticket ≢ ticket
  pub not_ended : HasEnded world.store.ended ticket → ⊥
  pub no_ending : (one : Ended E) → In one world.endings → one.ticket ≢ ticket

-- ---- what a version tells a claimant that knows of no acknowledgement

-- its claim and the write that it sent: that went through; its claim and the write before: that didn't, and may be sent
-- again; there is no third write under its claim
pub record Tells {T C S E : Type 0} (world : World T C S E) (claim : ℕ) (own : Claimant T C S E) : Type 0 where
  pub through : world.store.write ≡ own.write + 1 → In (asked claim own) world.history
  pub not_through : world.store.write ≡ own.write → In (asked claim own) world.history → ⊥
  pub again : world.store.write ≡ own.write → Fits world.store (asked claim own)
  pub no_other : (world.store.write ≡ own.write + 1) ⊎ (world.store.write ≡ own.write)
