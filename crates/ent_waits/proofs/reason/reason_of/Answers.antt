use Rattle.std.proofs.Common.{ℕ, List, Option, refl, ap, subst}
use Rattle.std.specs.Prelude.{IfSome}
use Rattle.std.specs.Option.{is_some}
use Rattle.ent_protocol.specs.Quiet.{CanMove, HasJobOut, IsUntried, NoneIs}
use Rattle.ent_protocol.specs.State.{State}
use Rattle.ent_protocol.specs.Waits.{IsDeadlock}
use Rattle.ent_waits.specs.Quiet.{state_of}
use Rattle.ent_waits.proofs.Reasons.{is_least, is_none, least_if_any}
use Rattle.ent_waits.proofs.reason.reason_of.Goals as goal
use Rattle.ent_waits.proofs.reason.reason_of.Goals.{In_default, In_default-2, In_default-3}

-- what is known of each state with these parts, once a test found nothing
none_out : (c : In_default) (s : State)
    → NoneIs (HasJobOut (state_of c.args.run.now c.args.submitted.now c.args.tried.now c.args.lent.now s))
none_out c s =
    let here = state_of c.args.run.now c.args.submitted.now c.args.tried.now c.args.lent.now s in
    is_none (HasJobOut here) c.in_ok-tx.field-0 c.in_default.is
    (c.in_ok-tx.ensures here (c.requires here refl refl) refl)

none_moves : (c : In_default-2) (s : State)
    → NoneIs (CanMove (state_of c.args.run.now c.args.submitted.now c.args.tried.now c.args.lent.now s))
none_moves c s =
    let here = state_of c.args.run.now c.args.submitted.now c.args.tried.now c.args.lent.now s in
    is_none (CanMove here) c.in_ok-tx-2.field-0 c.in_default-2.is
    (c.in_ok-tx-2.ensures (record s { tried = c.args.tried.now }))

none_untried : (c : In_default-3) (s : State)
    → NoneIs (IsUntried (state_of c.args.run.now c.args.submitted.now c.args.tried.now c.args.lent.now s))
none_untried c s =
    let here = state_of c.args.run.now c.args.submitted.now c.args.tried.now c.args.lent.now s in
    is_none (IsUntried here) c.in_ok-tx-3.field-0 c.in_default-3.is
    (least_if_any (IsUntried here) c.in_ok-tx-3.field-0
    (c.in_ok-tx-3.ensures here (c.requires here refl refl) refl))

pub returns-in-Some : goal.returns-in-Some
returns-in-Some c = λ s.
    let here = state_of c.args.run.now c.args.submitted.now c.args.tried.now c.args.lent.now s in
    is_least (HasJobOut here) c.in_ok-tx.field-0 c.in-Some.tx c.in-Some.is
    (c.in_ok-tx.ensures here (c.requires here refl refl) refl)

pub returns-in-Some-2 : goal.returns-in-Some-2
returns-in-Some-2 c = λ s.
    let here = state_of c.args.run.now c.args.submitted.now c.args.tried.now c.args.lent.now s in
    let mover = is_least (CanMove here) c.in_ok-tx-2.field-0 c.in-Some-2.tx c.in-Some-2.is
    (c.in_ok-tx-2.ensures (record s { tried = c.args.tried.now })) in
    (none_out (goal.at.returns-in-Some-2 c).In_default s, mover)

pub returns-in-Some-3 : goal.returns-in-Some-3
returns-in-Some-3 c = λ s.
    let here = state_of c.args.run.now c.args.submitted.now c.args.tried.now c.args.lent.now s in
    let untried = is_least (IsUntried here) c.in_ok-tx-3.field-0 c.in-Some-3.tx c.in-Some-3.is
    (least_if_any (IsUntried here) c.in_ok-tx-3.field-0
    (c.in_ok-tx-3.ensures here (c.requires here refl refl) refl)) in (
      none_out (goal.at.returns-in-Some-3 c).In_default s,
      none_moves (goal.at.returns-in-Some-3 c).In_default-2 s,
      untried,
    )

pub returns-in-Some-deadlock : goal.returns-in-Some-deadlock
returns-in-Some-deadlock c = λ s.
    let here = state_of c.args.run.now c.args.submitted.now c.args.tried.now c.args.lent.now s in
    let cycle = subst (λ (found : Option (List ℕ)). IfSome found (IsDeadlock here)) c.in-Some-deadlock.is
    (c.deadlock.ensures.found (record s { tried = c.args.tried.now })) in (
      none_out (goal.at.returns-in-Some-deadlock c).In_default s,
      none_moves (goal.at.returns-in-Some-deadlock c).In_default-2 s,
      none_untried (goal.at.returns-in-Some-deadlock c).In_default-3 s,
      cycle,
    )

pub returns-in-None : goal.returns-in-None
returns-in-None c = λ s.
    record {
      nothing_out = none_out (goal.at.returns-in-None c).In_default s;
      nobody_moves = none_moves (goal.at.returns-in-None c).In_default-2 s;
      all_tried = none_untried (goal.at.returns-in-None c).In_default-3 s;
      no_deadlock = c.deadlock.ensures.none (record s { tried = c.args.tried.now }) (ap is_some c.in-None.is);
    }
