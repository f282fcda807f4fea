-- The waiting list of a room, as a claimant has it in memory.
use Rattle.std.specs.Prelude.{◌<◌, ℕ, List, map}
use Rattle.std.specs.List.{AllByRecursion}
use Rattle.ent_lists.specs.Elements.{Pairs}
use Rattle.ent_tree.specs.declared.script.Script.{Script}
use Rattle.ent_waiting.specs.WaitingList.{WaitingList}
use Rattle.ent_waiting.specs.declared.waiter.Patience.{Patience}
use Rattle.ent_waiting.specs.declared.waiter.Waiter.{Waiter as Entry}
use Rattle.ent_waiting.specs.Store.{Waiter}

-- what never changes of who waits
pub record WasPut : Type 0 where
  pub script : Script
  pub patience : Patience

abbrev pub was_put : Entry → WasPut
was_put entry = record { script = entry.script; patience = entry.patience }

abbrev pub waiter_at : ℕ × Entry → Waiter WasPut
waiter_at entry = record { ticket = entry.0; script = was_put entry.1 }

-- who waits in a list
abbrev pub waiting_in : WaitingList → List (Waiter WasPut)
waiting_in list = map waiter_at list.waiters

abbrev pub IsBefore : ℕ × Entry → ℕ × Entry → Type 0
IsBefore one other = one.0 < other.0

abbrev pub IsBelow : ℕ → ℕ × Entry → Type 0
IsBelow next one = one.0 < next

-- those who wait stand by ticket, and the next ticket is above theirs
pub record StandByTicket (list : WaitingList) : Type 0 where
  pub ascend : Pairs IsBefore list.waiters
  pub given : AllByRecursion (IsBelow list.next) list.waiters
