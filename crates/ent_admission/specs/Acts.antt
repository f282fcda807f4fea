-- What is done with those who wait, and what their clients ask for.
use Rattle.std.specs.Prelude.{◌≡◌, ◌⊎◌, ◌+◌, ◌++◌, ℕ, true, List}
use Rattle.ent_epoch.specs.Epoch.{begun, carried_over}
use Rattle.ent_feed.specs.declared.group.Group.{Group}
use Rattle.ent_epoch.specs.Passed.{IsRenewed}
use Rattle.ent_semantics.specs.Database.{Name}
use Rattle.ent_waiting.specs.Waiter.{is_idle}
use Rattle.ent_waiting.specs.WaitingList.{Onward, moved}
use Rattle.ent_waiting.specs.declared.waiter.WaitingPlace.{WaitingPlace}
use Rattle.ent_admission.specs.Admission.{Admission, IsAtRest, IsBatch}
use Rattle.ent_admission.specs.Groups.{Appends}
use Rattle.ent_admission.specs.Moves.{Chain, Moves}

-- a batch is made up, where none is on
pub record Plans (old new : Admission) : Type 0 where
  pub at_rest : IsAtRest old
  pub batch : IsBatch old new.coming.keys
  pub is : new ≡ record old { coming = new.coming; again = new.again }

-- who is in no batch comes into a queue, or leaves all
pub record Shifts (old new : Admission) : Type 0 where
  pub ticket : ℕ
  pub place : WaitingPlace
  pub idle : is_idle place ≡ true
  pub is : new ≡ record old { list = moved ticket place old.list }

-- The epoch ends, where no batch is on, and the next begins over its tables, but that the drained ones are empty. Who
-- waits goes on waiting.
pub record Turns (old new : Admission) : Type 0 where
  pub drained : List Name
  pub at_rest : IsAtRest old
  pub begins : new.epoch ≡ begun (old.epoch.number + 1) new.epoch.core.opening
  pub renewed : IsRenewed old.epoch.core.opening.tables (carried_over drained old.epoch.core) new.epoch.core.opening
  pub list : new.list ≡ old.list
  pub coming : new.coming ≡ old.coming
  pub again : new.again ≡ old.again
  pub feed : new.feed ≡ old.feed
  pub news : new.news ≡ old.news

-- A client's call: who waits may change, and groups may be kept no longer, the first ones first. Nothing else changes.
pub record Asks (old new : Admission) : Type 0 where
  pub epoch : new.epoch ≡ old.epoch
  pub coming : new.coming ≡ old.coming
  pub again : new.again ≡ old.again
  pub next : new.feed.next ≡ old.feed.next
  pub settled : List Group
  pub kept : settled ++ new.feed.groups ≡ old.feed.groups
  pub news : new.news ≡ old.news

abbrev pub Acts : Admission → Admission → Type 0
Acts old new = Plans old new ⊎ Shifts old new ⊎ Turns old new ⊎ Moves old new

-- an act, or a client's call
abbrev pub Happens : Admission → Admission → Type 0
Happens old new = Acts old new ⊎ Asks old new

-- acts lead from one to the other
abbrev pub LeadsOn : Admission → Admission → Type 0
LeadsOn first last = (count : ℕ) × Chain Acts count first last

-- who is in no batch changes its queue, and nothing else is done
pub record OnlyShifts (old new : Admission) : Type 0 where
  pub leads : LeadsOn old new
  pub epoch : new.epoch ≡ old.epoch
  pub coming : new.coming ≡ old.coming
  pub again : new.again ≡ old.again
  pub feed : new.feed ≡ old.feed
  pub news : new.news ≡ old.news
  pub onward : Onward old.list new.list
  pub at_rest : IsAtRest old → IsAtRest new

-- acts lead on, over the same tables; groups only come to the feed
pub record Advances (old new : Admission) : Type 0 where
  pub leads : LeadsOn old new
  pub feed : Appends old.feed new.feed
  pub onward : Onward old.list new.list
  pub tables : new.epoch.core.opening.tables ≡ old.epoch.core.opening.tables
