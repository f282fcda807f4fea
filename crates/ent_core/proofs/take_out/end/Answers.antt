use Rattle.std.proofs.Common.{◌≡◌, ◌∙◌, None, ap, arith, false, sym, subst, List}
use Rattle.std.specs.Prelude.{All}
use Rattle.ent_core.proofs.Packing.{IsPackable, run_packed}
use Rattle.ent_core.proofs.TakenOut.{kept_ended, may_leave, no_active_left, no_prepared_left, numbers_leaving, room_for}
use Rattle.ent_core.specs.TakeOut.{MayLeave}
use Rattle.ent_core.specs.contracts.store.Store.{the_view}
use Rattle.ent_members.proofs.ByNumber.{every_run_attempt}
use Rattle.ent_members.specs.declared.run_attempts.RunAttempt.{RunAttempt}
use Rattle.ent_members.specs.RunAttempts.{run_attempts_in}
use Rattle.ent_members.specs.Order.{tx_of}
use Rattle.ent_protocol.specs.Rollback.{NoOne, taken_out}
use Rattle.ent_protocol.specs.State.{State, by_number, members}
use Rattle.ent_core.proofs.take_out.end.Goals as goal

pub take_out-members-requires-clause-room : goal.take_out-members-requires-clause-room
take_out-members-requires-clause-room c =
    let s : State = c.args.store.now in
    room_for s (members s) (run_attempts_in None (members s)) c.requires.counted (every_run_attempt (members s))
    (omega arith)

pub take_out-members-requires-clause-leaving : goal.take_out-members-requires-clause-leaving
take_out-members-requires-clause-leaving c =
    let s : State = c.args.store.now in
    subst (λ (run_attempts : List RunAttempt). MayLeave run_attempts s) (sym (every_run_attempt (members s)))
    (may_leave s (members s) c.requires.once c.requires.within.members (λ n. omega arith))

pub invariant_of-store : goal.invariant_of-store
invariant_of-store c =
    let s : State = c.args.store.now in
    let inside = c.store.inside in
    let left : the_view inside ≡ taken_out (members s) NoOne s = c.store.view_is
    ∙ c.take_out-members.ensures.state (members s) (every_run_attempt (members s)) in (
      kept_ended inside.catalogue.tables inside.opening inside.submitted.items inside.transaction_table inside.running
          inside.run inside.tables inside.pool c.store.invariant.0
          (ap (λ (x : State). x.prepared) left ∙ no_prepared_left s NoOne)
          (ap (λ (x : State). x.active) left ∙ no_active_left s NoOne),
      c.store.invariant.1,
    )

pub of-requires : goal.of-requires
of-requires c =
    let s : State = c.args.store.now in
    subst (All IsPackable) (sym (numbers_leaving c.take_out-members.result (run_attempts_in None (members s))
    (by_number tx_of (members s)) c.take_out-members.ensures.members (every_run_attempt (members s))))
    (run_packed s.submitted c.requires.few (members s) c.requires.within.members)

pub returns-clause-members : goal.returns-clause-members
returns-clause-members c =
    let s : State = c.args.store.now in
    c.of.ensures
    ∙ numbers_leaving c.take_out-members.result (run_attempts_in None (members s)) (by_number tx_of (members s))
    c.take_out-members.ensures.members (every_run_attempt (members s))

pub returns-clause-state : goal.returns-clause-state
returns-clause-state c =
    let s : State = c.args.store.now in
    let left : the_view c.store.inside ≡ taken_out (members s) NoOne s = c.store.view_is
    ∙ c.take_out-members.ensures.state (members s) (every_run_attempt (members s)) in
    λ i. record (left i) { running = false; tried = c.clear.ensures.items i; lent = c.clear-2.ensures i }
