use Rattle.std.proofs.Common.{◌≡◌, ◌∙◌, ℕ, All, List, true, arith, sym, subst}
use Rattle.std.proofs.lemmas.Grind.{common_steps}
use Rattle.ent_meetings.specs.Waiting.{named}
use Rattle.ent_meetings.specs.PartyMeeting.{IsClosed}
use Rattle.ent_waiting.specs.WaitingList.{waiter_of, waits_idle}
use Rattle.ent_admission.specs.Admission.{parties_of}
use Rattle.ent_admission.specs.Admission.{Admission}
use Rattle.ent_admission.proofs.Calls.{named_is}
use Rattle.ent_admission.proofs.admission.Admission.not_planned.Goals as goal

pub returns-then-not-all_wait-clause-absent : goal.returns-then-not-all_wait-clause-absent
returns-then-not-all_wait-clause-absent c = λ e all.
    let keys = c.args.tickets.now.keys in
    let same : c.as_slice.result.now ≡ keys = c.as_slice.ensures.value ∙ c.in_ok-numbers.ensures in
    c.all_wait.ensures.absent c.if-not-all_wait.true
    (subst (λ (xs : List ℕ). All (λ (t : ℕ). waits_idle (waiter_of c.self.inside.list t) ≡ true) xs) (sym same)
    (subst (λ (x : Admission). All (λ (t : ℕ). waits_idle (waiter_of x.list t) ≡ true) keys) (sym c.self.view_is) all))

pub returns-then-not-branch-clause-open : goal.returns-then-not-branch-clause-open
returns-then-not-branch-clause-open c = λ e closed.
    let keys = c.args.tickets.now.keys in
    let index = c.self.inside.index in
    let same : c.as_slice-2.result.now ≡ keys = c.as_slice-2.ensures.value ∙ c.in_ok-numbers.ensures in
    c.in_ok-is_closed.ensures.open c.if-not-branch.true
    (subst (λ (xs : List ℕ). IsClosed (named index xs)) (sym same)
    (subst IsClosed (sym (named_is index c.self.inside.list c.self.invariant.indexed keys))
    (subst (λ (x : Admission). IsClosed (parties_of x.list keys)) (sym c.self.view_is) closed)))

pub returns-clause-ok : goal.returns-clause-ok
returns-clause-ok c = λ e.
    let keys = c.args.tickets.now.keys in
    let index = c.self.inside.index in
    let one : c.as_slice.result.now ≡ keys = c.as_slice.ensures.value ∙ c.in_ok-numbers.ensures in
    let two : c.as_slice-2.result.now ≡ keys = c.as_slice-2.ensures.value ∙ c.in_ok-numbers.ensures in
    let count = c.len-count.ensures.len in
    let few = c.if-count-gt-MOST_MEMBERS.false in
    record {
      waits = subst (λ (x : Admission). All (λ (t : ℕ). waits_idle (waiter_of x.list t) ≡ true) keys) c.self.view_is
          (subst (λ (xs : List ℕ). All (λ (t : ℕ). waits_idle (waiter_of c.self.inside.list t) ≡ true) xs) one
          (c.all_wait.ensures.waits c.if-not-all_wait.false));
      closed = subst (λ (x : Admission). IsClosed (parties_of x.list keys)) c.self.view_is
          (subst IsClosed (named_is index c.self.inside.list c.self.invariant.indexed keys)
          (subst (λ (xs : List ℕ). IsClosed (named index xs)) two
          (c.in_ok-is_closed.ensures.closed c.if-not-branch.false)));
      few = grind (arith, common_steps);
    }
