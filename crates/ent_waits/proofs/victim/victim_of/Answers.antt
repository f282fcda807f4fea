use Rattle.std.proofs.Common.{◌≡◌, ◌<◌, ℕ, List, Option, None, length, refl, sym, ap, subst, ◌∙◌, true≢false}
use Rattle.std.specs.Prelude.{slice_index}
use Rattle.std.specs.Option.{is_some}
use Rattle.ent_protocol.specs.Member.{active_member}
use Rattle.ent_protocol.specs.State.{Member}
use Rattle.ent_waits.specs.Waits.{nothing, state_with}
use Rattle.ent_waits.proofs.Waiters.{first_is_active}
use Rattle.ent_waits.proofs.victim.victim_of.Goals as goal

pub returns-in_err-cycle-clause-none : goal.returns-in_err-cycle-clause-none
returns-in_err-cycle-clause-none c = λ s none. c.in_err-cycle.ensures.none s refl

pub bounds-as_slice-0 : goal.bounds-as_slice-0
bounds-as_slice-0 c =
    subst (λ (xs : List ℕ). 0 < length xs) (sym c.as_slice.ensures.list)
    (c.in_ok-cycle.ensures.found nothing).is_cycle.closes.not_empty

pub returns-in-Some-clause-found : goal.returns-in-Some-clause-found
returns-in-Some-clause-found c = λ s.
    let now = state_with c.args.run.now c.args.submitted.now c.args.lent.now s in
    record {
      deadlock = c.in_ok-cycle.ensures.found s;
      victim = c.in-Some.member;
      is_victim = ap (λ (xs : List ℕ). active_member now (slice_index xs 0)) (sym c.as_slice.ensures.list)
          ∙ sym (c.in-Some.ensures s);
      group = c.group-group.ensures;
    }

pub returns-in-None-clause-none : goal.returns-in-None-clause-none
returns-in-None-clause-none c = λ s none.
    let now = state_with c.args.run.now c.args.submitted.now c.args.lent.now s in
    let first = first_is_active now c.in_ok-cycle.cycle (c.in_ok-cycle.ensures.found s).is_cycle in
    let gone : active_member now (slice_index c.in_ok-cycle.cycle 0) ≡ None =
    ap (λ (xs : List ℕ). active_member now (slice_index xs 0)) (sym c.as_slice.ensures.list)
    ∙ sym (c.in-None.ensures s) in
    absurd (true≢false (ap (λ (m : Option Member). is_some m) (sym first.1 ∙ gone)))
