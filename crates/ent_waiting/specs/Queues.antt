-- The stations of those who wait: the queues, and the batch.
use Rattle.std.specs.Prelude.{◌≡◌, ℕ, Bool, true, false, cond}
use Rattle.std.specs.Ordering.{nat_cmp}
use Rattle.std.specs.BTreeMap.{is_at}
use Rattle.std.specs.BTreeSet.{contains}
use Rattle.ent_waiting.specs.declared.queues.Queues.{Queues}
use Rattle.ent_waiting.specs.declared.waiter.WaitingPlace.{WaitingPlace}
use Rattle.ent_waiting.specs.declared.waiter.WaitingPlace.TheVariants.{Chosen, Queued, Submitted}
use Rattle.ent_waiting.specs.declared.queues.Rank.{Rank}
use Rattle.ent_waiting.specs.declared.queues.Rank.TheVariants.{Ordinary, Newcomer, Woken}
use Rattle.ent_waiting.specs.declared.queues.Station.{Station}
use Rattle.ent_waiting.specs.declared.queues.Station.TheVariants.{Batch, Queue}

abbrev pub same_rank : Rank → Rank → Bool
same_rank Ordinary Ordinary = true
same_rank Newcomer Newcomer = true
same_rank Woken Woken = true
same_rank one other = false

abbrev pub same_station : Station → Station → Bool
same_station (Queue rank) (Queue other) = same_rank rank other
same_station Batch Batch = true
same_station one other = false

-- a place is at a station: in a queue, or in the batch
abbrev pub stands_in : Station → WaitingPlace → Bool
stands_in (Queue rank) (Queued own) = same_rank own rank
stands_in Batch Chosen = true
stands_in Batch (Submitted submission) = true
stands_in station other = false

-- a ticket is at a station
abbrev pub has : Station → Queues → ℕ → Bool
has (Queue Ordinary) queues ticket = contains nat_cmp queues.ordinary ticket
has (Queue Newcomer) queues ticket = contains nat_cmp queues.newcomers ticket
has (Queue Woken) queues ticket = contains nat_cmp queues.woken ticket
has Batch queues ticket = contains nat_cmp queues.batch ticket

abbrev pub IsEmpty : Queues → Type 0
IsEmpty queues = (station : Station) (ticket : ℕ) → has station queues ticket ≡ false

abbrev pub SameQueues : Queues → Queues → Type 0
SameQueues old new = (station : Station) (ticket : ℕ) → has station new ticket ≡ has station old ticket

-- at one station one ticket is there or not, and all else is as it was
abbrev pub Puts : Bool → Station → ℕ → Queues → Queues → Type 0
Puts there station ticket old new = (other : Station) (t : ℕ)
    → has other new t
    ≡ cond (same_station station other) (cond (is_at (nat_cmp ticket) t) there (has other old t)) (has other old t)

-- one ticket is at those stations, and all else is as it was
abbrev pub MakesAt : ℕ → (Station → Bool) → Queues → Queues → Type 0
MakesAt ticket there old new = (station : Station) (t : ℕ)
    → has station new t ≡ cond (is_at (nat_cmp ticket) t) (there station) (has station old t)
