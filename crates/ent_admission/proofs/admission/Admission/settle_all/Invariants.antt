use Rattle.std.proofs.Common.{◌≡◌, ◌<◌, ◌+◌, ◌*◌, ◌-◌, ◌^◌, ℕ, cond, false}
use Rattle.std.specs.BTreeSet.{contains}
use Rattle.std.specs.Ordering.{nat_cmp}
use Rattle.ent_protocol.specs.Reached.{CanClose}
use Rattle.ent_admission.specs.Moves.{Goes}
use Rattle.ent_waiting.specs.WaitingList.{Onward, is_stationed, waiter_of}
use Rattle.ent_waiting.specs.declared.queues.Station.TheVariants.{Batch}
use Rattle.ent_admission.proofs.admission.Admission.settle_all.Given as goal

abbrev pub decreases-loop-next : goal.decreases-loop-next
decreases-loop-next l = 2 * (2 ^ 64 - l.from) + cond (is_stationed Batch (waiter_of l.self.list l.from)) 1 0

-- all below the next ticket are in no batch
abbrev pub invariant-loop-next : goal.invariant-loop-next
invariant-loop-next l = record {
  goes : Goes l.fn.self l.self;
  opening : l.self.epoch.core.opening ≡ l.fn.self.epoch.core.opening;
  onward : Onward l.fn.self.list l.self.list;
  over : CanClose l.self.epoch.core;
  all_in : (ticket : ℕ) → contains nat_cmp l.self.coming ticket ≡ false;
  settled : (ticket : ℕ) → ticket < l.from → is_stationed Batch (waiter_of l.self.list ticket) ≡ false;
}
