-- A store, those who claimed it, and what people were told.
use Rattle.std.specs.Prelude.{◌+◌, ℕ, ◌==◌, not, List, [], ◌∷◌, ◌++◌, Option, None, if◌then◌else◌}
use Rattle.std.specs.List.{filter}
use Rattle.ent_waiting.specs.Store.{Group, Waiter, Ended, Store, Write, Version, Waits, version}
use Rattle.ent_waiting.specs.Store.{empty}

pub data Standing : Type 0 where
  -- its room may go on
  Free : Standing
  -- it sent a write, and doesn't know yet whether that went through; its room stands still
  Saving : Standing
  -- it knows that somebody else claimed the store, and has stopped
  Taken : Standing

-- a process that claimed the store: what it has in memory
pub record Claimant (T C S E : Type 0) : Type 0 where
  pub standing : Standing
  -- the last write that it knows of
  pub write : ℕ
  -- its room: the tables, the number of the last group, who waits, and the ticket that comes next
  pub tables : T
  pub group : ℕ
  pub waiting : List (Waiter S)
  pub next : ℕ
  -- what its room did behind that write: the groups, the tickets that ended, and those that were given out
  pub groups : List (Group C E)
  pub ended : List (Ended E)
  pub given : List (Waiter S)

pub record World (T C S E : Type 0) : Type 0 where
  pub store : Store T S E
  -- by their claims, but for those whose process has crashed
  pub claimants : ℕ → Option (Claimant T C S E)
  -- each write that was ever sent, and each version that the store ever had
  pub sent : List (Write C S E)
  pub versions : List Version
  -- the writes that went through, in order
  pub history : List (Write C S E)
  -- what claimants were acknowledged, and what anybody was told: tickets, and endings
  pub acknowledged : List Version
  pub tickets : List (Waiter S)
  pub endings : List (Ended E)

-- those who wait, but for a ticket
abbrev pub without : {S : Type 0} → ℕ → List (Waiter S) → List (Waiter S)
without ticket waiting = filter (λ waiter. not (waiter.ticket == ticket)) waiting

-- those who wait when these have ended
abbrev pub left_by : {S E : Type 0} → List (Ended E) → List (Waiter S) → List (Waiter S)
left_by [] waiting = waiting
left_by (one ∷ more) waiting = left_by more (without one.ticket waiting)

-- each of them waits until it ends
abbrev pub MayEnd : {S E : Type 0} → List (Ended E) → List (Waiter S) → Type 0
MayEnd [] waiting = Unit {0}
MayEnd (one ∷ more) waiting = Waits waiting one.ticket × MayEnd more (without one.ticket waiting)

module _ {T C S E : Type 0} where
  -- nobody has claimed the store yet, and nobody was told anything
  abbrev pub created : T → ℕ → World T C S E
  created tables next =
      record {
        store = empty tables next;
        claimants = λ claim. None;
        sent = [];
        versions = version (empty {S = S} {E = E} tables next) ∷ [];
        history = [];
        acknowledged = [];
        tickets = [];
        endings = [];
      }

  -- ---- claimants

  -- who begins from what the store holds
  abbrev pub begun : Store T S E → Claimant T C S E
  begun store =
      record {
        standing = Free;
        write = store.write;
        tables = store.tables;
        group = store.group;
        waiting = store.waiting;
        next = store.next;
        groups = [];
        ended = [];
        given = [];
      }

  -- a script is put, and waits
  abbrev pub after_put : S → Claimant T C S E → Claimant T C S E
  after_put script own =
      let waiter : Waiter S = record { ticket = own.next; script = script } in
      record own {
        waiting = own.waiting ++ waiter ∷ [];
        next = own.next + 1;
        given = own.given ++ waiter ∷ [];
      }

  -- a ticket ends
  abbrev pub after_end : Ended E → Claimant T C S E → Claimant T C S E
  after_end one own =
      record own {
        waiting = without one.ticket own.waiting;
        ended = own.ended ++ one ∷ [];
      }

  abbrev pub after_ends : List (Ended E) → Claimant T C S E → Claimant T C S E
  after_ends [] own = own
  after_ends (one ∷ more) own = after_ends more (after_end one own)

  -- the next group changes the tables
  abbrev pub after_change : (C → T → T) → C → List (Ended E) → Claimant T C S E → Claimant T C S E
  after_change changed change members own =
      let group : Group C E = record { number = own.group + 1; change = change; members = members } in
      record own { tables = changed change own.tables; group = own.group + 1; groups = own.groups ++ group ∷ [] }

  -- it commits, and with it its members end
  abbrev pub after_commit : (C → T → T) → C → List (Ended E) → Claimant T C S E → Claimant T C S E
  after_commit changed change members own = after_ends members (after_change changed change members own)

  -- the write that stands for all that it did since the last one
  abbrev pub asked : ℕ → Claimant T C S E → Write C S E
  asked claim own =
      record {
        claim = claim;
        number = own.write + 1;
        groups = own.groups;
        ended = own.ended;
        waiting = own.waiting;
        next = own.next;
      }

  -- it knows that its write went through
  abbrev pub after_write : Claimant T C S E → Claimant T C S E
  after_write own =
      record own { standing = Free; write = own.write + 1; groups = []; ended = []; given = [] }

  -- ---- the world

  -- a claim's memory is this from now on
  abbrev pub with_claimant : ℕ → Option (Claimant T C S E) → World T C S E → World T C S E
  with_claimant claim own world =
      record world { claimants = λ other. if other == claim then own else world.claimants other }

  -- somebody is told these tickets and endings
  abbrev pub told : List (Waiter S) → List (Ended E) → World T C S E → World T C S E
  told tickets endings world = record world { tickets = world.tickets ++ tickets; endings = world.endings ++ endings }
