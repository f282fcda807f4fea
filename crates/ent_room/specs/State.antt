-- How tickets stand.
use Rattle.std.specs.Prelude.{◌≡◌, ℕ, Bool, true, false, List, [], Option, Some, None}
use Rattle.ent_meetings.specs.Lack.{IsLack}
use Rattle.ent_meetings.specs.Meeting.{IsLonely}
use Rattle.ent_meetings.specs.Waiting.{Waiting, party_at}
use Rattle.ent_meetings.specs.declared.lack.Lack.TheVariants.{Unoffered}
use Rattle.ent_meetings.specs.declared.party.Party.{Party}
use Rattle.ent_admission.specs.Admission.{Admission, IsIndexed, is_in_batch}
use Rattle.ent_waiting.specs.Ended.{ended_of}
use Rattle.ent_waiting.specs.WaitingList.{WaitingList, is_stationed, waiter_of}
use Rattle.ent_waiting.specs.declared.ended.Ended.{Ended}
use Rattle.ent_waiting.specs.declared.queues.Rank.{Rank}
use Rattle.ent_waiting.specs.declared.queues.Station.TheVariants.{Queue}
use Rattle.ent_waiting.specs.declared.waiter.WaitingPlace.TheVariants.{Resting}
use Rattle.ent_waiting.specs.declared.waiter.Submission.{Submission}
use Rattle.ent_waiting.specs.declared.waiter.Waiter.{Waiter}
use Rattle.ent_room.specs.declared.state.State.{State}
use Rattle.ent_room.specs.declared.state.State.TheVariants as states

-- a script waits under the ticket, and is of the batch that is on, or isn't
pub record Waits (a : Admission) (ticket : ℕ) (in_batch : Bool) : Type 0 where
  pub waiter : Waiter
  pub waits : waiter_of a.list ticket ≡ Some waiter
  pub batch : is_in_batch a ticket ≡ in_batch

-- a script waits under the ticket, and rests
pub record Rests (a : Admission) (ticket : ℕ) : Type 0 where
  pub waiting : Waits a ticket false
  pub place : waiting.waiter.place ≡ Resting

-- Nobody who waits may offer this demand of the script of the ticket, and each demand before it somebody may. So it
-- stands in no set of those who wait that needs nobody else.
pub record IsLeftAlone (list : WaitingList) (ticket demand : ℕ) : Type 0 where
  pub index : Waiting
  pub indexed : IsIndexed index list
  pub party : Party
  pub stands : party_at index ticket ≡ Some party
  pub lacks : IsLack index party 0 (Unoffered demand)
  pub lonely : IsLonely index ticket

-- nobody stands in the queue of this rank
abbrev pub HasNobodyIn : WaitingList → Rank → Type 0
HasNobodyIn list rank = (ticket : ℕ) → is_stationed (Queue rank) (waiter_of list ticket) ≡ false

-- nobody stands in a queue
abbrev pub AreResting : WaitingList → Type 0
AreResting list = (rank : Rank) → HasNobodyIn list rank

-- nobody waits under the ticket
abbrev pub IsGone : Admission → ℕ → Type 0
IsGone a ticket = waiter_of a.list ticket ≡ None

-- what a state says of a ticket
abbrev pub StandsAs : Admission → ℕ → State → Type 0
StandsAs a ticket (states.Waits batches) = (waiting : Waits a ticket false) × (waiting.waiter.batches ≡ batches)
StandsAs a ticket (states.Lonely demand) = Rests a ticket × IsLeftAlone a.list ticket demand
StandsAs a ticket states.NoMeeting = Rests a ticket
StandsAs a ticket states.Cut = Rests a ticket
StandsAs a ticket states.InBatch = Waits a ticket true
StandsAs a ticket (states.Ended ending) =
    IsGone a ticket × ((ended : Ended) × (ended_of ticket a.list.ended ≡ Some ended) × (ended.ending ≡ ending))
StandsAs a ticket states.Unknown = IsGone a ticket × (ended_of ticket a.list.ended ≡ None)

-- the transactions that the script became, be it waiting or ended
abbrev pub submissions_in : Option Waiter → Option Ended → List Submission
submissions_in (Some waiter) ended = waiter.submissions
submissions_in None (Some ended) = ended.submissions
submissions_in None None = []

abbrev pub submissions_of : WaitingList → ℕ → List Submission
submissions_of list ticket = submissions_in (waiter_of list ticket) (ended_of ticket list.ended)
