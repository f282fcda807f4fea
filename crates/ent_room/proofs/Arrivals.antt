-- Scripts that come in, as they wait.
use Rattle.std.proofs.Common.{◌≡◌, ◌∙◌, ◌+◌, ℕ, Some, ap}
use Rattle.ent_tree.specs.declared.script.Script.{Script}
use Rattle.ent_waiting.specs.Waiter.{newcomer}
use Rattle.ent_waiting.specs.WaitingList.{WaitingList, admitted, waiter_of}
use Rattle.ent_waiting.specs.declared.queues.Rank.{Rank}
use Rattle.ent_waiting.specs.declared.waiter.Patience.{Patience}
use Rattle.ent_waiting.specs.declared.waiter.Waiter.{Waiter}
use Rattle.ent_room.specs.Putting.{arrived, patience_of, rank_of, with_put, with_restored}
use Rattle.ent_room.specs.declared.putting.Stay.{Stay}
use Rattle.ent_room.proofs.Inserting.{found_inserted}

module _ (script : Script) (stay : Stay) (list : WaitingList) where
  as_arrived : (batches : ℕ) (patience : Patience) (rank : Rank) → patience ≡ patience_of stay script
      → rank ≡ rank_of script → newcomer script patience batches rank ≡ arrived script stay batches
  as_arrived batches patience rank same_patience same_rank =
      ap (λ (p : Patience). newcomer script p batches rank) same_patience
      ∙ ap (λ (r : Rank). newcomer script (patience_of stay script) batches r) same_rank

  pub as_restored : (ticket batches : ℕ) (patience : Patience) (rank : Rank) → patience ≡ patience_of stay script
      → rank ≡ rank_of script
      → record (admitted ticket (newcomer script patience batches rank) list) { earlier = ticket + 1 }
      ≡ with_restored ticket script stay batches list
  as_restored ticket batches patience rank same_patience same_rank =
      ap (λ (w : Waiter). record (admitted ticket w list) { earlier = ticket + 1 })
      (as_arrived batches patience rank same_patience same_rank)

  pub restored_waits : (ticket batches : ℕ) (new : WaitingList) → new ≡ with_restored ticket script stay batches list
      → waiter_of new ticket ≡ Some (arrived script stay batches)
  restored_waits ticket batches new e =
      ap (λ (l : WaitingList). waiter_of l ticket) e
      ∙ found_inserted ticket (arrived script stay batches) list.waiters

  pub put_waits : (new : WaitingList) → new ≡ with_put script stay list
      → waiter_of new list.next ≡ Some (arrived script stay 0)
  put_waits new e =
      ap (λ (l : WaitingList). waiter_of l list.next) e
      ∙ found_inserted list.next (arrived script stay 0) list.waiters
