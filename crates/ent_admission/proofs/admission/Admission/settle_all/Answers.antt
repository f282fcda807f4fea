use Rattle.std.proofs.Common.{◌≡◌, ◌∙◌, ◌≤◌, ℕ, true, inl, inr, sym, ap, subst}
use Rattle.std.specs.BTreeSet.{BTreeSet, contains}
use Rattle.std.specs.Ordering.{nat_cmp}
use Rattle.ent_epoch.specs.Epoch.{Epoch}
use Rattle.ent_protocol.specs.Reached.{CanClose}
use Rattle.ent_waiting.specs.WaitingList.{is_stationed, waiter_of}
use Rattle.ent_waiting.specs.declared.queues.Station.TheVariants.{Batch}
use Rattle.ent_admission.specs.Admission.{Admission}
use Rattle.ent_admission.proofs.Calls.{settled_on}
use Rattle.ent_admission.proofs.Changes.{onward_on}
use Rattle.ent_admission.proofs.Going.{goes_on, goes_once}
use Rattle.ent_admission.proofs.admission.Admission.settle_all.Goals as goal

pub loop-next-preserved : goal.loop-next-preserved
loop-next-preserved c =
    let old = c.loop-next.self in
    let new = c.settle.new.self in
    let was = c.loop-next.invariant in
    let least : (other : ℕ) → is_stationed Batch (waiter_of old.list other) ≡ true → c.loop-next.from ≤ other
    → c.number-from.result ≤ other =
    λ other there high.
    subst (λ (k : ℕ). k ≤ other) (sym c.number-from.ensures)
    (c.in-Some.ensures.least other
    (ap (λ (x : Admission). is_stationed Batch (waiter_of x.list other)) c.self.view_is ∙ there)
    (subst (λ (k : ℕ). k ≤ other) (sym c.new.ensures) high)) in
    record {
      goes = goes_on c.args.self.now old new was.goes (goes_once old new
          (inr (inr (inr (inl c.in_ok-settle.ensures.ok)))));
      opening = c.settle.ensures.opening ∙ was.opening;
      onward = onward_on c.args.self.now.list old.list new.list was.onward c.settle.ensures.onward;
      over = subst (λ (e : Epoch). CanClose e.core) (sym c.settle.ensures.epoch) was.over;
      all_in = λ t. ap (λ (s : BTreeSet ℕ). contains nat_cmp s t) c.settle.ensures.coming ∙ was.all_in t;
      settled = settled_on old.list new.list c.loop-next.from c.number-from.result was.settled least
          c.in_ok-settle.ensures.others;
    }
