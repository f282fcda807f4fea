-- Who waits, who of them is in the core, and what is told of it.
use Rattle.std.specs.Prelude.{◌≡◌, ◌≤◌, ◌+◌, ◌∷◌, ◌^◌, ◌||◌, ℕ, Bool, true, false, [], All, List, length, Option, Some}
use Rattle.std.specs.Prelude.{None, Ok}
use Rattle.std.specs.Prelude.{option_map}
use Rattle.std.specs.BTreeSet.{BTreeSet, contains}
use Rattle.std.specs.List.{filter_map}
use Rattle.std.specs.Ordering.{nat_cmp}
use Rattle.ent_group.specs.declared.members.TheConstants.{MOST_MEMBERS}
use Rattle.ent_form.specs.Catalogue.{schemas_of}
use Rattle.ent_form.specs.Form.{script_in}
use Rattle.ent_form.specs.declared.script.Plain.{Plain}
use Rattle.ent_meetings.specs.Waiting.{Waiting, party_at}
use Rattle.ent_meetings.specs.PartyMeeting.{IsClosed}
use Rattle.ent_meetings.specs.Party.{party_of}
use Rattle.ent_meetings.specs.declared.party.Party.{Party}
use Rattle.ent_epoch.specs.Telling.{IsToldTo, groups_due}
use Rattle.ent_feed.specs.Feed.{Feed}
use Rattle.ent_feed.specs.declared.group.EndedTicket.{EndedTicket}
use Rattle.ent_protocol.specs.Reached.{CanClose}
use Rattle.ent_semantics.specs.Serial.{numbered}
use Rattle.ent_tree.specs.declared.declaration.Opening.{Opening}
use Rattle.ent_tree.specs.declared.limits.TheConstants.{MOST_SCRIPTS}
use Rattle.ent_tree.specs.declared.script.Script.{Script}
use Rattle.ent_epoch.specs.Epoch.{Epoch, begun, for_one_run}
use Rattle.ent_waiting.specs.WaitingList.{WaitingList, is_stationed, nobody, waiter_of, waits_idle}
use Rattle.ent_waiting.specs.declared.queues.Rank.TheVariants.{Woken}
use Rattle.ent_waiting.specs.declared.queues.Station.TheVariants.{Batch}
use Rattle.ent_waiting.specs.declared.waiter.WaitingPlace.{WaitingPlace}
use Rattle.ent_waiting.specs.declared.waiter.WaitingPlace.TheVariants.{Chosen, Submitted}
use Rattle.ent_waiting.specs.declared.waiter.Submission.{Submission}
use Rattle.ent_waiting.specs.declared.waiter.Waiter.{Waiter}
use Rattle.ent_admission.specs.declared.batch.Again.{Again}

pub record Admission : Type 0 where
  -- the present epoch
  pub epoch : Epoch
  pub list : WaitingList
  -- those of the present batch who weren't submitted yet
  pub coming : BTreeSet ℕ
  -- how those of it wait again who have no fate of their own after it
  pub again : Again
  -- the groups that tell what committed, and who ended otherwise
  pub feed : Feed
  -- who ended otherwise, and isn't told yet
  pub news : List EndedTicket

-- a feed of no group, whose first one will have this number
abbrev pub no_groups : ℕ → Feed
no_groups number = record { first = number; next = number; groups = [] }

-- an epoch of this number over an opening, before which nobody waits; the first ticket and the first group have these
-- numbers
abbrev pub fresh : ℕ → Opening → ℕ → ℕ → ℕ → ℕ → Admission
fresh number opening next next_group most_waiters most_ended =
    record {
      epoch = begun number opening;
      list = nobody next most_waiters most_ended;
      coming = record { keys = [] };
      again = record { rank = Woken; root = None };
      feed = no_groups next_group;
      news = [];
    }

-- a script that a core over these declarations takes
abbrev pub IsFormed : Opening → Script → Type 0
IsFormed opening script = (plain : Plain) × (script_in (schemas_of opening.tables) (for_one_run script) ≡ Ok plain)

-- ---- batches

-- what the script of a ticket that waits offers and demands
abbrev pub party_of_ticket : WaitingList → ℕ → Option Party
party_of_ticket list ticket = option_map (λ waiter. party_of waiter.script) (waiter_of list ticket)

abbrev pub parties_of : WaitingList → List ℕ → List Party
parties_of list tickets = filter_map (party_of_ticket list) tickets

-- These wait, and are in no batch. Each demand of each of them may be met by one of them, and they fit into one run.
pub record IsBatch (a : Admission) (tickets : List ℕ) : Type 0 where
  pub waits : All (λ ticket. waits_idle (waiter_of a.list ticket) ≡ true) tickets
  pub closed : IsClosed (parties_of a.list tickets)
  pub few : length tickets ≤ MOST_MEMBERS

-- the script of a ticket is of the batch that is on, be it submitted or not
abbrev pub is_in_batch : Admission → ℕ → Bool
is_in_batch a ticket = contains nat_cmp a.coming ticket || is_stationed Batch (waiter_of a.list ticket)

-- the groups of the feed tell all that committed, up to the settled tables; and nobody else is to be told
pub record IsAllTold (a : Admission) : Type 0 where
  pub commits : IsToldTo a.epoch.telling a.epoch.core
  pub endings : a.news ≡ []

-- no batch is on: nobody is to come, nobody is submitted, no run is on, and nobody waits in the core
pub record IsOver (a : Admission) : Type 0 where
  pub coming : (ticket : ℕ) → contains nat_cmp a.coming ticket ≡ false
  pub closes : CanClose a.epoch.core
  pub idle : (ticket : ℕ) → is_stationed Batch (waiter_of a.list ticket) ≡ false

-- no batch is on, and all is told
pub record IsAtRest (a : Admission) : Type 0 where
  pub over : IsOver a
  pub told : IsAllTold a

-- how many groups tell who ended otherwise
abbrev pub endings_due : List EndedTicket → ℕ
endings_due [] = 0
endings_due (first ∷ more) = 1

-- the groups of all that isn't told need more numbers than there are
abbrev pub LacksNumbers : Admission → Type 0
LacksNumbers a = 2 ^ 64 ≤ a.feed.next + groups_due a.epoch.telling + endings_due a.news

-- ---- what an admission keeps

-- who wasn't submitted
abbrev pub is_before : WaitingPlace → Bool
is_before (Submitted submission) = false
is_before other = true

abbrev pub waits_before : Option Waiter → Bool
waits_before None = false
waits_before (Some waiter) = is_before waiter.place

abbrev pub is_chosen : WaitingPlace → Bool
is_chosen Chosen = true
is_chosen other = false

abbrev pub waits_chosen : Option Waiter → Bool
waits_chosen None = false
waits_chosen (Some waiter) = is_chosen waiter.place

-- a core that takes as many scripts more
pub record HasRoomFor (core : Epoch) (count : ℕ) : Type 0 where
  pub no_run : core.core.running ≡ false
  pub members : length core.core.dormant + count ≤ MOST_MEMBERS
  pub scripts : length core.core.submitted + count ≤ MOST_SCRIPTS

-- the index has what each that waits offers and demands
abbrev pub IsIndexed : Waiting → WaitingList → Type 0
IsIndexed index list = (ticket : ℕ) → party_at index ticket ≡ party_of_ticket list ticket

pub record IsKept (a : Admission) (index : Waiting) : Type 0 where
  -- each script that waits is one that the core takes
  pub formed : (ticket : ℕ) (waiter : Waiter) → waiter_of a.list ticket ≡ Some waiter
      → IsFormed a.epoch.core.opening waiter.script
  -- the index has what each that waits offers and demands
  pub indexed : IsIndexed index a.list
  -- who is submitted is in the present epoch, under its own ticket
  pub linked : (ticket : ℕ) (waiter : Waiter) (submission : Submission) → waiter_of a.list ticket ≡ Some waiter
      → waiter.place ≡ Submitted submission
      → (submission.epoch ≡ a.epoch.number) × (numbered a.epoch.tickets submission.tx ≡ Some ticket)
  -- who is to come waits and wasn't submitted, and who is chosen is to come
  pub before : (ticket : ℕ) → contains nat_cmp a.coming ticket ≡ true → waits_before (waiter_of a.list ticket) ≡ true
  pub chosen : (ticket : ℕ) → waits_chosen (waiter_of a.list ticket) ≡ true → contains nat_cmp a.coming ticket ≡ true
  pub room : (ticket : ℕ) → contains nat_cmp a.coming ticket ≡ true → HasRoomFor a.epoch (length a.coming.keys)
