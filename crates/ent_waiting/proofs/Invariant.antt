-- What every step keeps: of the store, and of each claimant.
use Rattle.std.proofs.Common.{◌≡◌, ◌⊎◌, ◌≤◌, ◌+◌, ℕ, List, ◌++◌, length, Some}
use Rattle.std.specs.List.{AllByRecursion, flat_map}
use Rattle.ent_lists.specs.Elements.{In, Pairs}
use Rattle.ent_waiting.specs.Laws.{FollowOn, NumberOn, NotLaterClaim}
use Rattle.ent_waiting.specs.Store.{Group, Waiter, Ended, Store, Write, Version, Fits, tables_after, last_group}
use Rattle.ent_waiting.specs.Store.{version}
use Rattle.ent_waiting.specs.World.{World, Claimant, Free, asked, left_by}
use Rattle.ent_waiting.proofs.Goes.{AreOnce, Goes, Stays}

abbrev pub at_version : ℕ → ℕ → Version
at_version claim write = record { claim = claim; write = write }

abbrev pub groups_in : {C S E : Type 0} → List (Write C S E) → List (Group C E)
groups_in history = flat_map (λ write. write.groups) history

-- the members of groups have ended
abbrev pub AreWhole : {C E : Type 0} → List (Group C E) → List (Ended E) → Type 0
AreWhole {C = C} {E = E} groups ended = (group : Group C E) (one : Ended E) → In group groups → In one group.members
    → In one ended

-- a write of this version went through
pub record IsDone {C S E : Type 0} (history : List (Write C S E)) (known : Version) : Type 0 where
  pub write : Write C S E
  pub there : In write history
  pub claim : write.claim ≡ known.claim
  pub number : write.number ≡ known.write

module _ {T C S E : Type 0} where
  abbrev pub IsBusy : Claimant T C S E → Type 0
  IsBusy own = own.standing ≡ Free → ⊥

  -- nothing that it did since its last write is in the store
  pub record Ahead (changed : C → T → T) (store : Store T S E) (own : Claimant T C S E) : Type 0 where
    pub write : store.write ≡ own.write
    pub tables : own.tables ≡ tables_after changed own.groups store.tables
    pub group : own.group ≡ last_group own.groups store.group
    pub follow : FollowOn store.group own.groups
    pub goes : Goes store.waiting store.next own.waiting own.ended own.next
    pub given : (waiter : Waiter S) → In waiter own.given → Stays own.waiting own.ended waiter
    pub left : own.waiting ≡ left_by own.ended (store.waiting ++ own.given)

  -- its write went through, and it doesn't know that yet
  pub record Level (store : Store T S E) (own : Claimant T C S E) : Type 0 where
    pub write : store.write ≡ own.write + 1
    pub busy : IsBusy own
    pub tables : own.tables ≡ store.tables
    pub group : own.group ≡ store.group
    pub waiting : own.waiting ≡ store.waiting
    pub next : own.next ≡ store.next

  -- the store has all that it did since its last write
  pub record Through (store : Store T S E) (history : List (Write C S E)) (claim : ℕ) (own : Claimant T C S E) :
      Type 0 where
    pub busy : IsBusy own
    pub done : In (asked claim own) history
    pub given : (waiter : Waiter S) → In waiter own.given → Stays store.waiting store.ended waiter
    pub ended : (one : Ended E) → In one own.ended → In one store.ended

  -- what it sent last
  pub record Sent (claim : ℕ) (own : Claimant T C S E) (write : Write C S E) : Type 0 where
    pub number : write.number ≤ own.write + 1
    pub busy : write.number ≡ own.write + 1 → IsBusy own
    pub is : write.number ≡ own.write + 1 → write ≡ asked claim own

  -- of a claimant
  pub record Right (changed : C → T → T) (store : Store T S E) (sent : List (Write C S E)) (versions : List Version)
      (history : List (Write C S E)) (claim : ℕ) (own : Claimant T C S E) : Type 0 where
    pub given : claim ≤ store.claim
    pub whole : AreWhole own.groups own.ended
    pub now : claim ≡ store.claim → Ahead changed store own ⊎ Level store own
    pub bound : (n : ℕ) → In (at_version claim n) versions → n ≤ own.write + 1
    pub through : In (at_version claim (own.write + 1)) versions → Through store history claim own
    pub sends : (write : Write C S E) → In write sent → write.claim ≡ claim → Sent claim own write

  -- a write that may go through
  pub record Continues (store : Store T S E) (write : Write C S E) : Type 0 where
    pub follow : FollowOn store.group write.groups
    pub goes : Goes store.waiting store.next write.waiting write.ended write.next

  -- of a write that was sent
  pub record MayArrive (store : Store T S E) (write : Write C S E) : Type 0 where
    pub claim : write.claim ≤ store.claim
    pub whole : AreWhole write.groups write.ended
    pub number : write.claim ≡ store.claim → write.number ≤ store.write + 1
    pub fits : Fits store write → Continues store write

  pub record HasGroups (changed : C → T → T) (first : T) (store : Store T S E) (history : List (Write C S E)) :
      Type 0 where
    pub tables : store.tables ≡ tables_after changed (groups_in history) first
    pub follow : FollowOn 0 (groups_in history)
    pub last : store.group ≡ last_group (groups_in history) 0
    pub ended : store.ended ≡ flat_map (λ write. write.ended) history
    pub whole : AreWhole (groups_in history) store.ended

  pub record HasWrites (store : Store T S E) (history : List (Write C S E)) : Type 0 where
    pub numbers : NumberOn 0 history
    pub last : store.write ≡ length history
    pub claims : Pairs NotLaterClaim history
    pub present : AllByRecursion (λ write. write.claim ≤ store.claim) history

  -- of all but the claimants
  pub record Sound (changed : C → T → T) (first : T) (store : Store T S E) (sent : List (Write C S E))
      (versions : List Version) (history : List (Write C S E)) (known : List Version) (tickets : List (Waiter S))
      (endings : List (Ended E)) : Type 0 where
    pub within : (v : Version) → In v versions → (v.claim ≤ store.claim) × (v.write ≤ store.write)
    pub present : In (version store) versions
    pub may_arrive : (write : Write C S E) → In write sent → MayArrive store write
    pub once : AreOnce store.waiting store.ended store.next
    pub groups : HasGroups changed first store history
    pub writes : HasWrites store history
    pub done : (v : Version) → In v known → IsDone history v
    pub stand : (waiter : Waiter S) → In waiter tickets → Stays store.waiting store.ended waiter
    pub ended : (one : Ended E) → In one endings → In one store.ended

  abbrev pub IsSound : (C → T → T) → T → World T C S E → Type 0
  IsSound changed first world =
      Sound changed first world.store world.sent world.versions world.history world.acknowledged world.tickets
      world.endings

  abbrev pub AreRight : (C → T → T) → World T C S E → Type 0
  AreRight changed world = (claim : ℕ) (own : Claimant T C S E) → world.claimants claim ≡ Some own
      → Right changed world.store world.sent world.versions world.history claim own

  pub record Kept (changed : C → T → T) (first : T) (world : World T C S E) : Type 0 where
    pub sound : IsSound changed first world
    pub right : AreRight changed world
