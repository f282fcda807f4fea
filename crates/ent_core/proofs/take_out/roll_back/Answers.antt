use Rattle.std.proofs.Common.{◌∙◌, Some, ap, sym, subst, map, List}
use Rattle.std.specs.Prelude.{All}
use Rattle.std.specs.List.{filter}
use Rattle.ent_lists.specs.Elements.{all_filtered, shorter}
use Rattle.ent_run.proofs.Distinct.{distinct_filter}
use Rattle.ent_core.proofs.Packing.{IsPackable, group_packed}
use Rattle.ent_core.proofs.Sorted.{by_number_again, times_filter}
use Rattle.ent_core.proofs.TakenOut.{may_leave, members_are_distinct, numbers_leaving, room_for}
use Rattle.ent_core.specs.TakeOut.{MayLeave}
use Rattle.ent_members.proofs.ByNumber.{group_run_attempts}
use Rattle.ent_members.specs.declared.run_attempts.RunAttempt.{RunAttempt}
use Rattle.ent_members.specs.RunAttempts.{run_attempt_of, run_attempts_in}
use Rattle.ent_protocol.specs.Member.{is_of}
use Rattle.ent_protocol.specs.Rollback.{group_members}
use Rattle.ent_protocol.specs.State.{State, members}
use Rattle.ent_protocol_laws.specs.Attempts.{MayTakePart}
use Rattle.ent_core.proofs.take_out.roll_back.Goals as goal

pub take_out-members-requires-clause-room : goal.take_out-members-requires-clause-room
take_out-members-requires-clause-room c =
    let s : State = c.args.store.now in
    let group = c.args.group in
    room_for s (filter (is_of group) (members s)) (run_attempts_in (Some group) (members s)) c.requires.counted
    (group_run_attempts group (members s)) (shorter (is_of group) (members s))

pub take_out-members-requires-clause-leaving : goal.take_out-members-requires-clause-leaving
take_out-members-requires-clause-leaving c =
    let s : State = c.args.store.now in
    let group = c.args.group in
    subst (λ (run_attempts : List RunAttempt). MayLeave run_attempts s) (sym (group_run_attempts group (members s)))
    (may_leave s (filter (is_of group) (members s)) c.requires.once
    (all_filtered (MayTakePart s.submitted) (is_of group) (members s) c.requires.within.members)
    (λ n. times_filter n (is_of group) (members s)))

pub of-requires : goal.of-requires
of-requires c =
    let s : State = c.args.store.now in
    let group = c.args.group in
    subst (All IsPackable) (sym (numbers_leaving c.take_out-members.result (run_attempts_in (Some group) (members s))
    (group_members s group) c.take_out-members.ensures.members (group_run_attempts group (members s))))
    (group_packed s.submitted c.requires.few s group c.requires.within.members)

pub returns-clause-group : goal.returns-clause-group
returns-clause-group c =
    let s : State = c.args.store.now in
    let group = c.args.group in
    c.of.ensures
    ∙ numbers_leaving c.take_out-members.result (run_attempts_in (Some group) (members s)) (group_members s group)
    c.take_out-members.ensures.members (group_run_attempts group (members s))

pub returns-clause-state : goal.returns-clause-state
returns-clause-state c =
    let s : State = c.args.store.now in
    let group = c.args.group in
    let again = by_number_again (filter (is_of group) (members s))
    (distinct_filter (is_of group) (members s) (members_are_distinct s c.requires.once)) in
    c.take_out-members.ensures.state (group_members s group)
    (group_run_attempts group (members s) ∙ ap (map run_attempt_of) (sym again))
