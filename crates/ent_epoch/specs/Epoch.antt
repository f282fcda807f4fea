-- A core whose transactions are those of tickets.
use Rattle.std.specs.Prelude.{◌≡◌, ◌+◌, ℕ, All, List, [], ◌∷◌, ◌++◌, length, Option, Some, None}
use Rattle.ent_tree.specs.declared.declaration.Opening.{Opening}
use Rattle.ent_tree.specs.declared.script.Script.{Script}
use Rattle.ent_sched.specs.Passed.{resolved_forms}
use Rattle.ent_protocol.specs.Event.{Submit, Submitted}
use Rattle.ent_protocol.specs.Lookup.{Finished, Standing}
use Rattle.ent_protocol.specs.Reached.{book_of, opened}
use Rattle.ent_protocol.specs.State.{State}
use Rattle.ent_protocol.specs.Step.{Step}
use Rattle.ent_semantics.specs.declared.book.Fate.{Fate}
use Rattle.ent_renewal.specs.Renewal.{drained}
use Rattle.ent_semantics.specs.Database.{Database, Name}
use Rattle.ent_epoch.specs.OneRun.{AreForOneRun}
use Rattle.ent_waiting.specs.declared.waiter.Submission.{Submission}
use Rattle.ent_feed.specs.Feed.{Feed}
use Rattle.ent_feed.specs.Group.{AreNumbered}
use Rattle.ent_feed.specs.declared.group.Group.{Group}
use Rattle.ent_epoch.specs.Telling.{KeepsUp, Telling, TellsRest, telling_at}

pub record Epoch : Type 0 where
  -- epochs are counted
  pub number : ℕ
  pub core : State
  -- whose each transaction is, by number from 1
  pub tickets : List ℕ
  -- how far the core is told of, and what was noted since
  pub telling : Telling

abbrev pub begun : ℕ → Opening → Epoch
begun number opening =
    record { number = number; core = opened opening; tickets = []; telling = telling_at (opened opening) }

-- the core that is there
abbrev pub core_in : Option State → State
core_in (Some core) = core
core_in None = opened (record { tables = []; rows = [] })

-- the script, but that it asks for one run
abbrev pub for_one_run : Script → Script
for_one_run script = record script { within = 1 }

-- a script of a ticket comes in for one run, and is this transaction; nothing else comes in
pub record Takes (old : Epoch) (ticket : ℕ) (script : Script) (submission : Submission) (new : Epoch) : Type 0 where
  pub step : Step resolved_forms old.core (Submit (for_one_run script)) (Submitted submission.tx) new.core
  pub epoch : submission.epoch ≡ old.number
  pub number : new.number ≡ old.number
  pub tickets : new.tickets ≡ old.tickets ++ ticket ∷ []
  pub telling : new.telling ≡ old.telling

-- one script more, which waits for a run; no run starts or ends by that
pub record AddsOne (old new : State) : Type 0 where
  pub opening : new.opening ≡ old.opening
  pub running : new.running ≡ old.running
  pub dormant : length new.dormant ≡ length old.dormant + 1
  pub submitted : length new.submitted ≡ length old.submitted + 1

-- what the next epoch begins with: the tables at the end of the book, but that the drained ones are empty
abbrev pub carried_over : List Name → State → Database
carried_over names core = drained names (book_of core).database

abbrev pub fate_at : Option Standing → Option Fate
fate_at (Some (Finished fate)) = Some fate
fate_at other = None

-- what an epoch keeps: a ticket for each transaction; each script asks for one run; and what is told and noted keeps up
-- with the core
pub record IsKept (epoch : Epoch) : Type 0 where
  pub counted : length epoch.tickets ≡ length epoch.core.submitted
  pub for_one_run : AreForOneRun epoch.core
  pub keeps_up : KeepsUp epoch.telling epoch.core

-- Groups that tell of all that was committed since what is told come behind those of a feed, and count on from its next
-- number; then all is told.
pub record Publishes (old : Epoch) (before after : Feed) (new : Epoch) : Type 0 where
  pub groups : List Group
  pub told : TellsRest old.tickets old.telling old.core groups
  pub epoch : All (λ group. group.epoch ≡ old.number) groups
  pub ended : All (λ group. group.ended ≡ []) groups
  pub numbered : AreNumbered before.next groups after.next
  pub feed : after ≡ record before { next = before.next + length groups; groups = before.groups ++ groups }
  pub all_told : new ≡ record old { telling = telling_at old.core }
