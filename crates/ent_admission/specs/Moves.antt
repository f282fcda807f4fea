-- How a batch goes on, and is told.
use Rattle.std.specs.Prelude.{◌≡◌, ◌⊎◌, ◌<◌, ◌+◌, ◌++◌, ◌∷◌, [], ℕ, zero, suc, Bool, true, false, Option, Some, None}
use Rattle.std.specs.Prelude.{List, length, if◌then◌else◌}
use Rattle.std.specs.BTreeMap.{is_at}
use Rattle.std.specs.BTreeSet.{contains}
use Rattle.std.specs.Ordering.{nat_cmp}
use Rattle.ent_epoch.specs.Passed.{LeadsOn, resolved_forms}
use Rattle.ent_protocol.specs.Lookup.{standing}
use Rattle.ent_protocol.specs.Reached.{CanClose}
use Rattle.ent_semantics.specs.declared.book.Fate.{Fate}
use Rattle.ent_semantics.specs.declared.book.Fate.TheVariants as fates
use Rattle.ent_epoch.specs.Epoch.{Epoch, Publishes, Takes, fate_at}
use Rattle.ent_epoch.specs.OneRun.{MakesRun}
use Rattle.ent_feed.specs.declared.group.EndedTicket.{EndedTicket}
use Rattle.ent_feed.specs.declared.group.Group.{Group}
use Rattle.ent_feed.specs.declared.group.OtherEnding.{OtherEnding}
use Rattle.ent_feed.specs.declared.group.OtherEnding.TheVariants as others
use Rattle.ent_waiting.specs.Waiter.{is_over, with_batch}
use Rattle.ent_waiting.specs.WaitingList.{WaitingList, StandsAt, UpdatesAt, back, back_or_gone, changed, ending_as}
use Rattle.ent_waiting.specs.WaitingList.{moved}
use Rattle.ent_waiting.specs.declared.ended.Ending.{Ending}
use Rattle.ent_waiting.specs.declared.ended.Ending.TheVariants.{Committed, Failed, GaveUp, RolledBack, Withdrawn}
use Rattle.ent_waiting.specs.declared.waiter.WaitingPlace.{WaitingPlace}
use Rattle.ent_waiting.specs.declared.waiter.WaitingPlace.TheVariants.{Chosen, Submitted}
use Rattle.ent_waiting.specs.declared.waiter.Submission.{Submission}
use Rattle.ent_waiting.specs.declared.waiter.Waiter.{Waiter}
use Rattle.ent_admission.specs.Admission.{Admission}
use Rattle.ent_admission.specs.Again.{counts_for}
use Rattle.ent_admission.specs.declared.batch.Again.{Again}

-- who is to come stands ready
pub record Chooses (old new : Admission) : Type 0 where
  pub ticket : ℕ
  pub comes : contains nat_cmp old.coming ticket ≡ true
  pub epoch : new.epoch ≡ old.epoch
  pub list : new.list ≡ moved ticket Chosen old.list
  pub coming : new.coming ≡ old.coming
  pub again : new.again ≡ old.again
  pub feed : new.feed ≡ old.feed
  pub news : new.news ≡ old.news

-- who stands ready is submitted as it was put, but for one run
pub record Enters (old new : Admission) : Type 0 where
  pub ticket : ℕ
  pub waiter : Waiter
  pub submission : Submission
  pub comes : contains nat_cmp old.coming ticket ≡ true
  pub stands : StandsAt old.list ticket Chosen
  pub waits : stands.waiter ≡ waiter
  pub takes : Takes old.epoch ticket waiter.script submission new.epoch
  pub list : new.list ≡ changed ticket (record waiter { place = Submitted submission }) old.list
  pub gone : contains nat_cmp new.coming ticket ≡ false
  pub others : (other : ℕ) → is_at (nat_cmp ticket) other ≡ false
      → contains nat_cmp new.coming other ≡ contains nat_cmp old.coming other
  pub again : new.again ≡ old.again
  pub feed : new.feed ≡ old.feed
  pub news : new.news ≡ old.news

-- once all of the batch are submitted their run is made, or as much of it as there was memory for
pub record Runs (old new : Admission) : Type 0 where
  pub all_in : (ticket : ℕ) → contains nat_cmp old.coming ticket ≡ false
  pub made : MakesRun old.epoch.core new.epoch.core ⊎ ((count : ℕ)
      × LeadsOn resolved_forms count old.epoch.core new.epoch.core)
  pub epoch : new.epoch ≡ record old.epoch { core = new.epoch.core; telling = new.epoch.telling }
  pub telling : new.epoch.telling ≡ record old.epoch.telling { notes = new.epoch.telling.notes }
  pub list : new.list ≡ old.list
  pub coming : new.coming ≡ old.coming
  pub again : new.again ≡ old.again
  pub feed : new.feed ≡ old.feed
  pub news : new.news ≡ old.news

-- how a script ends with the fate of its transaction; who only gave up the one run waits again
abbrev pub ending_with : ℕ → Option Fate → Option Ending
ending_with epoch (Some (fates.Committed number runs)) = Some (Committed epoch number)
ending_with epoch (Some (fates.RolledBack runs)) = Some RolledBack
ending_with epoch (Some (fates.Failed failure runs)) = Some (Failed failure)
ending_with epoch other = None

-- it waits again as it was planned, or gives up where its patience is used up
pub record WaitsAgain (again : Again) (ticket : ℕ) (waiter : Waiter) (old new : WaitingList) : Type 0 where
  pub list : new ≡ back ticket again.rank (counts_for again ticket) false waiter old
  pub updates : UpdatesAt ticket (back_or_gone again.rank (counts_for again ticket) false waiter) old.waiters new.waiters

-- the transaction that a script is at its place
abbrev pub submission_in : WaitingPlace → Option Submission
submission_in (Submitted submission) = Some submission
submission_in other = None

abbrev pub submission_at : Option Waiter → Option Submission
submission_at None = None
submission_at (Some waiter) = submission_in waiter.place

-- how a script ends, as the core says of its transaction
abbrev pub ending_at : Epoch → Submission → Option Ending
ending_at epoch submission = ending_with submission.epoch (fate_at (standing epoch.core submission.tx))

-- it ends so, or it waits again
abbrev pub SettlesAs : Option Ending → Again → ℕ → Waiter → WaitingList → WaitingList → Type 0
SettlesAs (Some ending) again ticket waiter old new = new ≡ ending_as ticket ending true waiter old
SettlesAs None again ticket waiter old new = WaitsAgain again ticket waiter old new

-- ---- what is to be told

-- how it ends after all: so, or it gives up where its patience is used up; else it waits again
abbrev pub ended_with : Option Ending → Again → ℕ → Waiter → Option Ending
ended_with (Some ending) again ticket waiter = Some ending
ended_with None again ticket waiter =
    if is_over waiter.patience (with_batch (counts_for again ticket) waiter.batches) then Some GaveUp else None

-- an ending that no commit tells; who withdrew knows it
abbrev pub other_ending : Ending → Option OtherEnding
other_ending (Committed epoch number) = None
other_ending RolledBack = Some others.RolledBack
other_ending (Failed failure) = Some (others.Failed failure)
other_ending GaveUp = Some others.GaveUp
other_ending Withdrawn = None

abbrev pub news_as : ℕ → Option OtherEnding → List EndedTicket
news_as ticket None = []
news_as ticket (Some ending) = record { ticket = ticket; ending = ending } ∷ []

-- who is to be told, where a ticket ends so
abbrev pub news_of : ℕ → Option Ending → List EndedTicket
news_of ticket None = []
news_of ticket (Some ending) = news_as ticket (other_ending ending)

-- who was submitted ends, or waits again, as the core says of its transaction; an ending that no commit tells is noted
pub record Settles (old new : Admission) : Type 0 where
  pub ticket : ℕ
  pub submission : Submission
  pub stands : StandsAt old.list ticket (Submitted submission)
  pub over : CanClose old.epoch.core
  pub list : SettlesAs (ending_at old.epoch submission) old.again ticket stands.waiter old.list new.list
  pub epoch : new.epoch ≡ old.epoch
  pub coming : new.coming ≡ old.coming
  pub again : new.again ≡ old.again
  pub feed : new.feed ≡ old.feed
  pub news : new.news
      ≡ old.news ++ news_of ticket (ended_with (ending_at old.epoch submission) old.again ticket stands.waiter)

-- ---- what is told

-- what committed is told, group by group, up to the present state of the core
pub record TellsCommits (old new : Admission) : Type 0 where
  pub publishes : Publishes old.epoch old.feed new.feed new.epoch
  pub is : new ≡ record old { epoch = new.epoch; feed = new.feed }

-- a group of its own tells who ended otherwise
abbrev pub endings_group : ℕ → ℕ → List EndedTicket → Group
endings_group number epoch ended =
    record { number = number; epoch = epoch; commits = []; changes = []; ended = ended }

-- who ended otherwise is told
pub record TellsEndings (old new : Admission) : Type 0 where
  pub some : 0 < length old.news
  pub groups : new.feed.groups ≡ old.feed.groups ++ endings_group old.feed.next old.epoch.number old.news ∷ []
  pub next : new.feed.next ≡ old.feed.next + 1
  pub is : new ≡ record old { feed = new.feed; news = [] }

abbrev pub Tells : Admission → Admission → Type 0
Tells old new = TellsCommits old new ⊎ TellsEndings old new

-- ---- moves

abbrev pub Moves : Admission → Admission → Type 0
Moves old new = Chooses old new ⊎ Enters old new ⊎ Runs old new ⊎ Settles old new ⊎ Tells old new

-- so many steps lead from one to the other
abbrev pub Chain : (Admission → Admission → Type 0) → ℕ → Admission → Admission → Type 0
Chain Step zero first last = last ≡ first
Chain Step (suc n) first last = (between : Admission) × Chain Step n first between × Step between last

-- moves of a batch lead from one to the other
abbrev pub Goes : Admission → Admission → Type 0
Goes first last = (count : ℕ) × Chain Moves count first last
