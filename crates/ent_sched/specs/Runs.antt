-- Runs of a core, one after the other.
use Rattle.std.specs.Prelude.{◌≡◌, ◌≤◌, ℕ, ◌+◌, List, [], ◌∷◌, false, sum}
use Rattle.ent_semantics.specs.Database.{Database}
use Rattle.ent_semantics.specs.declared.book.Book.{Book}
use Rattle.ent_protocol.specs.Event.{Recall, Recalled}
use Rattle.ent_protocol.specs.Reached.{CanClose, IsFinished, book_of}
use Rattle.ent_protocol.specs.Run.{Forms}
use Rattle.ent_protocol.specs.State.{State}
use Rattle.ent_protocol.specs.Step.{Step}
use Rattle.ent_sched.specs.Bounds.{events_of_run}
use Rattle.ent_sched.specs.Onward.{LeadsOn}

module _ {F : Type 0} (forms : Forms F) where
  -- Something is left to be done, and so many events, no more than a run may make, lead to the end of a run.
  pub record IsRun (count : ℕ) (s end : State) : Type 0 where
    pub undone : ¬ CanClose s
    pub leads_on : LeadsOn forms count s end
    pub few : count ≤ events_of_run s
    pub ended : end.running ≡ false

  -- runs one after the other, each of so many events
  abbrev pub AreRuns : List ℕ → State → State → Type 0
  AreRuns [] s last = last ≡ s
  AreRuns (count ∷ more) s last = (end : State) × IsRun count s end × AreRuns more end last

  -- All jobs are taken back, and runs follow: so many events in all.
  pub record RunsOn (count : ℕ) (s last : State) : Type 0 where
    pub recalled : State
    pub recalls : Step forms s Recall Recalled recalled
    pub runs : List ℕ
    pub are_runs : AreRuns runs recalled last
    pub in_all : count ≡ 1 + sum runs

  -- The same, and then a run that wasn't ended, of no more events than a run may make.
  pub record RunsInto (count : ℕ) (s last : State) : Type 0 where
    pub before : ℕ
    pub between : State
    pub runs_on : RunsOn before s between
    pub part : ℕ
    pub leads_on : LeadsOn forms part between last
    pub few : part ≤ events_of_run between
    pub in_all : count ≡ before + part

  -- They lead to a finished state, and a book is that one's.
  pub record RunsOut (count : ℕ) (s : State) (book : Book Database) : Type 0 where
    pub last : State
    pub runs_on : RunsOn count s last
    pub finished : IsFinished forms last
    pub is : book ≡ book_of last
