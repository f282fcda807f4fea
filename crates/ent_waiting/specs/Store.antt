-- A store: a database that keeps what committed, and what of it a claimant writes.
use Rattle.std.specs.Prelude.{◌≡◌, ◌+◌, ℕ, List, [], ◌∷◌, ◌++◌, map}
use Rattle.ent_lists.specs.Elements.{In}

-- a ticket that waits, and its script
pub record Waiter (S : Type 0) : Type 0 where
  pub ticket : ℕ
  pub script : S

-- a ticket that waits no more, and how it ended: it committed, failed, gave up or was withdrawn
pub record Ended (E : Type 0) : Type 0 where
  pub ticket : ℕ
  pub ending : E

-- what committed together: the number of the group, what it changed in the tables, and the tickets that ended in it
pub record Group (C E : Type 0) : Type 0 where
  pub number : ℕ
  pub change : C
  pub members : List (Ended E)

-- a ticket waits, and one has ended
abbrev pub Waits : {S : Type 0} → List (Waiter S) → ℕ → Type 0
Waits waiting ticket = In ticket (map (λ waiter. waiter.ticket) waiting)

abbrev pub HasEnded : {E : Type 0} → List (Ended E) → ℕ → Type 0
HasEnded ended ticket = In ticket (map (λ one. one.ticket) ended)

pub record Store (T S E : Type 0) : Type 0 where
  -- how often it was claimed
  pub claim : ℕ
  -- how many writes went through
  pub write : ℕ
  pub tables : T
  -- the number of the last group
  pub group : ℕ
  pub waiting : List (Waiter S)
  pub ended : List (Ended E)
  -- the ticket that comes next
  pub next : ℕ

-- what is to be written in one transaction
pub record Write (C S E : Type 0) : Type 0 where
  -- by whom, and which write it is to be
  pub claim : ℕ
  pub number : ℕ
  pub groups : List (Group C E)
  pub ended : List (Ended E)
  -- who waits then, and the ticket that comes next
  pub waiting : List (Waiter S)
  pub next : ℕ

-- a claim and a write of the store
pub record Version : Type 0 where
  pub claim : ℕ
  pub write : ℕ

abbrev pub version : {T S E : Type 0} → Store T S E → Version
version store = record { claim = store.claim; write = store.write }

-- nothing was written yet
abbrev pub empty : {T S E : Type 0} → T → ℕ → Store T S E
empty tables next =
    record { claim = 0; write = 0; tables = tables; group = 0; waiting = []; ended = []; next = next }

-- it is claimed once more
abbrev pub claimed : {T S E : Type 0} → Store T S E → Store T S E
claimed store = record store { claim = store.claim + 1 }

-- the tables after groups, in order
abbrev pub tables_after : {T C E : Type 0} → (C → T → T) → List (Group C E) → T → T
tables_after changed [] tables = tables
tables_after changed (group ∷ more) tables = tables_after changed more (changed group.change tables)

-- the number of the last of these groups; or the number before, where there is none
abbrev pub last_group : {C E : Type 0} → List (Group C E) → ℕ → ℕ
last_group [] before = before
last_group (group ∷ more) before = last_group more group.number

-- the compare: the writer's claim is the last one, and its write is the next one
pub record Fits {T C S E : Type 0} (store : Store T S E) (write : Write C S E) : Type 0 where
  pub claim : write.claim ≡ store.claim
  pub number : write.number ≡ store.write + 1

-- what a write leaves that went through
abbrev pub written : {T C S E : Type 0} → (C → T → T) → Write C S E → Store T S E → Store T S E
written changed write store =
    record {
      claim = store.claim;
      write = write.number;
      tables = tables_after changed write.groups store.tables;
      group = last_group write.groups store.group;
      waiting = write.waiting;
      ended = store.ended ++ write.ended;
      next = write.next;
    }
