-- Who waits, and who waits no more.
use Rattle.std.specs.Prelude.{◌≡◌, ◌⊎◌, ◌<◌, ◌≤◌, ◌-◌, ◌^◌, ℕ, Bool, true, false, List, [], ◌∷◌, ◌++◌}
use Rattle.std.specs.Prelude.{length, map, Option, Some, None, cond, if◌then◌else◌, nat_eq}
use Rattle.std.specs.List.{IsDistinct}
use Rattle.std.specs.Map.{lookup, remove_entry, set_value}
use Rattle.std.specs.BTreeMap.{insert_entry, is_at}
use Rattle.std.specs.Ordering.{nat_cmp}
use Rattle.ent_waiting.specs.Ended.{ended_of, last_of}
use Rattle.ent_waiting.specs.Queues.{has, stands_in}
use Rattle.ent_waiting.specs.Waiter.{back_in, is_idle, is_over, noted, with_batch}
use Rattle.ent_waiting.specs.declared.ended.Ended.{Ended}
use Rattle.ent_waiting.specs.declared.ended.Ending.{Ending}
use Rattle.ent_waiting.specs.declared.ended.Ending.TheVariants.{GaveUp}
use Rattle.ent_waiting.specs.declared.queues.Queues.{Queues}
use Rattle.ent_waiting.specs.declared.queues.Rank.{Rank}
use Rattle.ent_waiting.specs.declared.queues.Station.{Station}
use Rattle.ent_waiting.specs.declared.waiter.WaitingPlace.{WaitingPlace}
use Rattle.ent_waiting.specs.declared.waiter.WaitingPlace.TheVariants.{Submitted}
use Rattle.ent_waiting.specs.declared.waiter.Submission.{Submission}
use Rattle.ent_waiting.specs.declared.waiter.Waiter.{Waiter}

pub record WaitingList : Type 0 where
  -- the ticket that comes next
  pub next : ℕ
  -- the tickets of an earlier process that may still be put back: from the one, below the other
  pub earlier : ℕ
  pub first : ℕ
  -- ascending by ticket
  pub waiters : List (ℕ × Waiter)
  -- in the order in which they ended, of which the last are kept
  pub ended : List Ended
  pub most_waiters : ℕ
  pub most_ended : ℕ

-- nobody waits yet, and this ticket comes next
abbrev pub nobody : ℕ → ℕ → ℕ → WaitingList
nobody next most_waiters most_ended =
    record {
      next = next;
      earlier = 0;
      first = next;
      waiters = [];
      ended = [];
      most_waiters = most_waiters;
      most_ended = most_ended;
    }

-- the script that waits under a ticket
abbrev pub waiter_of : WaitingList → ℕ → Option Waiter
waiter_of list ticket = lookup (is_at (nat_cmp ticket)) list.waiters

-- a ticket that was given out, or put back, or may be put back no more
pub record IsUsed (list : WaitingList) (ticket : ℕ) : Type 0 where
  pub given : ticket < list.next
  pub not_earlier : list.earlier ≤ ticket → list.first ≤ ticket

-- a ticket of an earlier process that didn't come back yet, nor did a greater one
pub record MayComeBack (list : WaitingList) (ticket : ℕ) : Type 0 where
  pub from : list.earlier ≤ ticket
  pub below : ticket < list.first

-- as many wait as there may be, or no ticket is left
abbrev pub IsFull : WaitingList → Type 0
IsFull list = (list.most_waiters ≤ length list.waiters) ⊎ (2 ^ 64 - 1 ≤ list.next)

-- ---- what becomes of those who wait

abbrev pub admitted : ℕ → Waiter → WaitingList → WaitingList
admitted ticket waiter list = record list { waiters = insert_entry nat_cmp list.waiters ticket waiter }

abbrev pub changed : ℕ → Waiter → WaitingList → WaitingList
changed ticket waiter list = record list { waiters = set_value (is_at (nat_cmp ticket)) list.waiters waiter }

-- a script waits, and is in no batch
abbrev pub waits_idle : Option Waiter → Bool
waits_idle None = false
waits_idle (Some waiter) = is_idle waiter.place

-- who is in no batch comes to another place; nobody else changes
abbrev pub moved_with : Option Waiter → ℕ → WaitingPlace → WaitingList → WaitingList
moved_with None ticket place list = list
moved_with (Some waiter) ticket place list =
    if is_idle waiter.place then changed ticket (record waiter { place = place }) list else list

abbrev pub moved : ℕ → WaitingPlace → WaitingList → WaitingList
moved ticket place list = moved_with (waiter_of list ticket) ticket place list

-- how a script of a ticket ended, after one batch more that counts or doesn't
abbrev pub ended_as : ℕ → Ending → Bool → Waiter → Ended
ended_as ticket ending counts waiter =
    record {
      ticket = ticket;
      ending = ending;
      batches = with_batch counts waiter.batches;
      submissions = noted waiter.place waiter.submissions;
    }

-- it waits no more
abbrev pub ending_as : ℕ → Ending → Bool → Waiter → WaitingList → WaitingList
ending_as ticket ending counts waiter list =
    record list {
      waiters = remove_entry (is_at (nat_cmp ticket)) list.waiters;
      ended = last_of list.most_ended (list.ended ++ ended_as ticket ending counts waiter ∷ []);
    }

-- it waits again after a batch, in the queue of this rank; or it gives up, where its patience is used up
abbrev pub back : ℕ → Rank → Bool → Bool → Waiter → WaitingList → WaitingList
back ticket rank counts alone waiter list =
    if is_over waiter.patience (with_batch counts waiter.batches) then ending_as ticket GaveUp counts waiter list else
    changed ticket (back_in rank counts alone waiter) list

-- what waits after a batch: the script again, or nothing where it gives up
abbrev pub back_or_gone : Rank → Bool → Bool → Waiter → Option Waiter
back_or_gone rank counts alone waiter =
    if is_over waiter.patience (with_batch counts waiter.batches) then None else Some (back_in rank counts alone waiter)

-- one ticket has this script, or none, and all others have theirs
abbrev pub UpdatesAt : ℕ → Option Waiter → List (ℕ × Waiter) → List (ℕ × Waiter) → Type 0
UpdatesAt ticket waiter old new = (t : ℕ) → lookup (is_at (nat_cmp t)) new
    ≡ cond (is_at (nat_cmp ticket) t) waiter (lookup (is_at (nat_cmp t)) old)

-- ---- who stands where

-- the script of a ticket waits at this place
pub record StandsAt (list : WaitingList) (ticket : ℕ) (place : WaitingPlace) : Type 0 where
  pub waiter : Waiter
  pub waits : waiter_of list ticket ≡ Some waiter
  pub place_is : waiter.place ≡ place

-- the script of a ticket waits, as a transaction of a batch that isn't over
abbrev pub IsSubmitted : WaitingList → ℕ → Type 0
IsSubmitted list ticket = (submission : Submission) × StandsAt list ticket (Submitted submission)

-- the script of a ticket waits, and is in a batch
pub record IsInBatch (list : WaitingList) (ticket : ℕ) : Type 0 where
  pub waiter : Waiter
  pub waits : waiter_of list ticket ≡ Some waiter
  pub busy : is_idle waiter.place ≡ false

-- the script of a ticket waits, and is in no batch
pub record IsIdle (list : WaitingList) (ticket : ℕ) : Type 0 where
  pub waiter : Waiter
  pub waits : waiter_of list ticket ≡ Some waiter
  pub idle : is_idle waiter.place ≡ true

-- ---- what no call undoes

-- A ticket that was used stays used. Who has one and doesn't wait never waits again; how it ended is kept or forgotten.
pub record Onward (old new : WaitingList) : Type 0 where
  pub used : (ticket : ℕ) → IsUsed old ticket → IsUsed new ticket
  pub gone : (ticket : ℕ) → IsUsed old ticket → waiter_of old ticket ≡ None → waiter_of new ticket ≡ None
  pub told : (ticket : ℕ) → IsUsed old ticket → waiter_of old ticket ≡ None
      → (ended_of ticket new.ended ≡ ended_of ticket old.ended) ⊎ (ended_of ticket new.ended ≡ None)

-- ---- what a waiting list keeps of its parts

abbrev pub is_stationed : Station → Option Waiter → Bool
is_stationed station None = false
is_stationed station (Some waiter) = stands_in station waiter.place

-- each station has just those whose place is there
abbrev pub AreQueued : List (ℕ × Waiter) → Queues → Type 0
AreQueued waiters queues = (station : Station) (ticket : ℕ)
    → has station queues ticket ≡ is_stationed station (lookup (is_at (nat_cmp ticket)) waiters)

pub record IsKept (list : WaitingList) (queues : Queues) : Type 0 where
  pub queued : AreQueued list.waiters queues
  pub first_given : list.first ≤ list.next
  -- who waits or ended has a ticket that was used, and ended once if it doesn't wait
  pub used : (ticket : ℕ) (waiter : Waiter) → waiter_of list ticket ≡ Some waiter → IsUsed list ticket
  pub ended_used : (ticket : ℕ) (one : Ended) → ended_of ticket list.ended ≡ Some one → IsUsed list ticket
  pub ended_gone : (ticket : ℕ) (one : Ended) → ended_of ticket list.ended ≡ Some one → waiter_of list ticket ≡ None
  pub once : IsDistinct nat_eq (map (λ one. one.ticket) list.ended)
  pub few : length list.ended ≤ list.most_ended
