-- What an event and its reply tell of transactions.
use Rattle.std.specs.Prelude.{◌+◌, ℕ, List, [], ◌∷◌, map, slice_get, unwrap_or}
use Rattle.ent_protocol.specs.Event.{Event, Reply}
use Rattle.ent_protocol.specs.Event as events
use Rattle.ent_protocol.specs.Job.{Work, One, Joint}
use Rattle.ent_reasons.specs.declared.last_status.LastStatus.TheVariants as last_statuses
use Rattle.ent_reasons.specs.declared.note.Change.{Change}
use Rattle.ent_reasons.specs.declared.note.Change.TheVariants.{Starts, Passes, Stands}
use Rattle.ent_reasons.specs.declared.note.Note.{Note}
use Rattle.ent_reasons.specs.Noted.{IsNoted, Noted, each, no_run}

-- the transactions of some work
abbrev pub workers : Work → List ℕ
workers (One single) = single.tx ∷ []
workers (Joint posted) = map (λ query. query.tx) posted

-- those whom an event is of: the one that begins, or those whose result comes in
abbrev pub parties : Event → List ℕ
parties (events.Begin tx) = tx ∷ []
parties (events.Finish done) = workers done.job.work
parties (events.JoinAnswer done) = workers done.job.work
parties other = []

-- the first of some transactions, or 0, which is none
abbrev pub first_party : List ℕ → ℕ
first_party own = unwrap_or (slice_get own 0) 0

-- the transactions of entries of the journal
abbrev pub entered : List (ℕ × ℕ) → List ℕ
entered [] = []
entered (entry ∷ more) = entry.1 ∷ entered more

-- What is told of some transactions.
pub record News : Type 0 where
  pub of : List ℕ
  pub change : Change

abbrev pub tells : List ℕ → Change → News
tells members change = record { of = members; change = change }

-- what a reply tells, to an event of these transactions
abbrev pub news : {F : Type 0} → List ℕ → Reply F → News
news own (events.Started members) = tells members Starts
news own (events.Stepped answer) = tells own Passes
news own events.Answered = tells own Passes
news own (events.Lent job) = tells own (Stands last_statuses.Free)
news own (events.Blocked holder) = tells own (Stands (last_statuses.Blocked holder))
news own (events.HeldBack fault) =
    tells own (Stands (last_statuses.HeldBack fault.asker (fault.index + 1) fault.first fault.second))
news own events.Posted = tells own (Stands last_statuses.Posted)
news own events.NoChoice = tells own (Stands (last_statuses.NoChoice own))
news own events.Prepared = tells own (Stands last_statuses.Prepared)
news own (events.Committed entries) = tells (entered entries) (Stands last_statuses.Committed)
news own (events.RolledBack group) = tells group (Stands (last_statuses.RolledBack (first_party own)))
news own (events.Failed failure group) = tells group (Stands (last_statuses.Failed (first_party own) failure))
news own (events.Broken cycle group) = tells group (Stands (last_statuses.Broken cycle))
news own other = tells [] Passes

module _ {F : Type 0} where
  -- the note of a transaction behind an event and its reply
  abbrev pub after : ℕ → Event × Reply F → Note → Note
  after tx (event, reply) note = each (news (parties event) reply).of (news (parties event) reply).change tx note

  -- the same behind some of them, the first one first
  abbrev pub noted_from : Note → ℕ → List (Event × Reply F) → Note
  noted_from note tx [] = note
  noted_from note tx (one ∷ more) = noted_from (after tx one note) tx more

  -- what is noted of a transaction, of all that was told since nobody was in a run
  abbrev pub noted : ℕ → List (Event × Reply F) → Note
  noted = noted_from no_run

  -- how notes go on behind an event and its reply
  abbrev pub IsHeard : Noted → Event × Reply F → Noted → Type 0
  IsHeard old (event, reply) new =
      IsNoted (news (parties event) reply).of (news (parties event) reply).change old new
