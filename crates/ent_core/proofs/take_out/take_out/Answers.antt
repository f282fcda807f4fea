use Rattle.std.proofs.Common.{◌≡◌, ◌∙◌, ◌++◌, ◌+◌, ◌≤◌, ℕ, List, ap, arith, length, nat_eq, sym, subst, map, take}
use Rattle.std.specs.List.{AllByRecursion, IsDistinct, filter, filter_map}
use Rattle.ent_waits.specs.Pooled.{IsPoolOf, is_of_none}
use Rattle.ent_core.proofs.Pooled.{kept_gone}
use Rattle.ent_core.proofs.TakenOut.{as_run_attempts, joints_left, kept_taken, may_leave_run, numbers_leaving}
use Rattle.ent_core.proofs.TakenOut.{taken, who_left}
use Rattle.ent_core.proofs.Settled.{first_stay, settled_left, settled_on}
use Rattle.ent_core.specs.TakeOut.{MayLeave, is_joint_of_others}
use Rattle.ent_core.specs.contracts.store.Store.{the_view}
use Rattle.ent_members.specs.declared.run_attempts.RunAttempt.{RunAttempt}
use Rattle.ent_members.specs.RunAttempts.{numbers_in, run_attempt_of, run_attempts_in}
use Rattle.ent_run.specs.Moves.{is_not_of}
use Rattle.ent_members.specs.Order.{tx_of}
use Rattle.ent_protocol.specs.Rollback.{dormant_by, fated_by, taken_out}
use Rattle.ent_protocol.specs.State.{Member, State, Submitted, by_number, members}
use Rattle.ent_members.specs.ByNumber.{IsNumbered}
use Rattle.ent_members.specs.Cause.{cause_seen}
use Rattle.ent_members.specs.Leaving.{IsWithin, as_member}
use Rattle.ent_tables.specs.Stored.{Stored}
use Rattle.ent_core.proofs.take_out.take_out.Goals as goal
use Rattle.ent_core.proofs.take_out.take_out.Goals.{After-remove-run_attempts}

-- who left
left : (c : After-remove-run_attempts) → c.remove-run_attempts.result
    ≡ run_attempts_in c.args.group (members (the_view c.store.inside))
left c =
    let s : State = the_view c.store.inside in
    who_left c.args.group s c.remove-run_attempts.result (c.remove-run_attempts.ensures.group s)
    (c.remove-run_attempts.ensures.all s)

leaving : (c : After-remove-run_attempts) → MayLeave c.remove-run_attempts.result (the_view c.store.inside)
leaving c =
    may_leave_run c.args.group c.remove-run_attempts.result (the_view c.store.inside) c.args.store.now c.store.view_is
    (left c) c.requires.leaving

pub leave-requires-clause-room : goal.leave-requires-clause-room
leave-requires-clause-room c =
    let s : State = the_view c.store.inside in
    let group = c.args.group in
    let R : State → Type 0 = λ x.
    length x.dormant + length x.fates + length (run_attempts_in group (members x)) ≤ length x.submitted in
    let room : R s = subst R (sym c.store.view_is) c.requires.room in
    let long : length c.as_slice.result.now ≡ length (run_attempts_in group (members s)) =
    ap length (c.as_slice.ensures.list
    ∙ left (goal.at.leave-requires-clause-room c).After-remove-run_attempts) in
    omega (arith, room, c.store.invariant.0.known, long)

pub leave-requires-clause-numbers : goal.leave-requires-clause-numbers
leave-requires-clause-numbers c =
    let inside = c.store.inside in
    let may = leaving (goal.at.leave-requires-clause-numbers c).After-remove-run_attempts in
    let N : ℕ → List RunAttempt → Type 0 = λ known all.
    AllByRecursion (λ run_attempt. IsNumbered known run_attempt.tx) all in
    subst (λ known. N known c.as_slice.result.now) (sym c.store.invariant.0.known)
    (subst (N (length inside.submitted.items)) (sym c.as_slice.ensures.list) may.arrived)

pub leave-requires-clause-within : goal.leave-requires-clause-within
leave-requires-clause-within c =
    let inside = c.store.inside in
    let may = leaving (goal.at.leave-requires-clause-within c).After-remove-run_attempts in
    let W : List Submitted → List RunAttempt → Type 0 = λ submitted all. AllByRecursion (IsWithin submitted) all in
    subst (λ submitted. W submitted c.as_slice.result.now) (sym c.as_slice-2.ensures.value)
    (subst (W inside.submitted.items) (sym c.as_slice.ensures.list) may.within)

pub leave-requires-clause-awake : goal.leave-requires-clause-awake
leave-requires-clause-awake c =
    let inside = c.store.inside in
    let may = leaving (goal.at.leave-requires-clause-awake c).After-remove-run_attempts in
    subst (λ (all : List RunAttempt). IsDistinct nat_eq
    (map (λ own. own.tx) inside.transaction_table.dormant ++ numbers_in all)) (sym c.as_slice.ensures.list)
    may.distinct

pub leave-requires-clause-unfinished : goal.leave-requires-clause-unfinished
leave-requires-clause-unfinished c =
    let inside = c.store.inside in
    let may = leaving (goal.at.leave-requires-clause-unfinished c).After-remove-run_attempts in
    subst (λ (all : List RunAttempt). IsDistinct nat_eq
    (map (λ fated. fated.tx) inside.transaction_table.fates ++ numbers_in all)) (sym c.as_slice.ensures.list)
    may.unfinished

-- the first joint answers have nobody of those who leave
stay : (c : After-remove-run_attempts) → filter (is_joint_of_others (numbers_in c.remove-run_attempts.result))
    (take c.store.inside.settled c.store.inside.joints.items) ≡ take c.store.inside.settled c.store.inside.joints.items
stay c =
    let inside = c.store.inside in
    first_stay inside.settled inside.joints.items inside.transaction_table.fates
    (numbers_in c.remove-run_attempts.result) c.store.invariant.1 (leaving c).unfinished

pub remove_joints-requires-clause-within : goal.remove_joints-requires-clause-within
remove_joints-requires-clause-within c = c.store.invariant.1.within

pub remove_joints-requires-clause-stay : goal.remove_joints-requires-clause-stay
remove_joints-requires-clause-stay c =
    let first = take c.store.inside.settled c.store.inside.joints.items in
    subst (λ (numbers : List ℕ). filter (is_joint_of_others numbers) first ≡ first) (sym c.numbers-numbers.ensures)
    (stay (goal.at.remove_joints-requires-clause-stay c).After-remove-run_attempts)

pub invariant_of-store : goal.invariant_of-store
invariant_of-store c =
    let inside = c.store.inside in
    let run_attempts : List RunAttempt = c.remove-run_attempts.result in
    let run = c.remove-run_attempts.new.self in
    let cause = cause_seen c.args.cause in
    let may = leaving (goal.at.invariant_of-store c).After-remove-run_attempts in
    let are = c.as_slice.ensures.list ∙ as_run_attempts run_attempts in
    let first = take inside.settled inside.joints.items in
    let first_ones = subst (λ (numbers : List ℕ). filter (is_joint_of_others numbers) first ≡ first)
    (sym c.numbers-numbers.ensures) (stay (goal.at.invariant_of-store c).After-remove-run_attempts) in (
      kept_taken inside.catalogue.tables inside.opening inside.submitted.items inside.transaction_table
          c.leave.new.self inside.running inside.run run inside.tables c.roll_back.new.self inside.pool
          c.withdraw_each.new.pool run_attempts cause (is_not_of (numbers_in run_attempts)) c.store.invariant.0
          may.arrived may.distinct
          (c.leave.ensures.dormant (map as_member run_attempts) are
          ∙ (λ i. inside.transaction_table.dormant
          ++ filter_map (dormant_by (c.as_slice-2.ensures.value i) cause) (map as_member run_attempts)))
          c.leave.ensures.known c.remove-run_attempts.ensures.prepared c.remove-run_attempts.ensures.active
          (ap (λ (stored : Stored). stored.kinds) c.roll_back.ensures.numbers)
          (subst (IsPoolOf inside.submitted.items run.active) (sym c.withdraw_each.ensures)
          (subst (λ (numbers : List ℕ). IsPoolOf inside.submitted.items run.active
          (filter (is_of_none numbers) inside.pool)) (sym (c.as_slice-3.ensures.list ∙ c.numbers-numbers.ensures))
          (kept_gone inside.submitted.items inside.run.active inside.pool c.store.invariant.0.posted
          (numbers_in run_attempts) run.active c.remove-run_attempts.ensures.active))),
      settled_on inside.settled c.remove_joints.new.joints.items inside.transaction_table.fates _
          c.leave.new.self.fates (c.leave.ensures.fates (map as_member run_attempts) are)
          (settled_left inside.settled inside.joints.items c.remove_joints.new.joints.items
          inside.transaction_table.fates (is_joint_of_others c.numbers-numbers.result) first_ones
          c.remove_joints.ensures c.store.invariant.1),
    )

pub returns-clause-members : goal.returns-clause-members
returns-clause-members c =
    c.numbers-numbers.ensures ∙ ap numbers_in (left (goal.at.returns-clause-members c).After-remove-run_attempts)
    ∙ ap (λ (s : State). numbers_in (run_attempts_in c.args.group (members s))) c.store.view_is

pub returns-clause-state : goal.returns-clause-state
returns-clause-state c = λ gone is.
    let inside = c.store.inside in
    let run_attempts : List RunAttempt = c.remove-run_attempts.result in
    let run = c.remove-run_attempts.new.self in
    let cause = cause_seen c.args.cause in
    let sorted : List Member = by_number tx_of gone in
    let are : run_attempts ≡ map run_attempt_of sorted =
    left (goal.at.returns-clause-state c).After-remove-run_attempts
    ∙ ap (λ (s : State). run_attempts_in c.args.group (members s)) c.store.view_is ∙ is in
    let numbers : c.numbers-numbers.result ≡ map tx_of sorted =
    numbers_leaving c.numbers-numbers.result run_attempts sorted c.numbers-numbers.ensures are in
    let leave = c.remove-run_attempts.ensures.leave sorted (sym c.numbers-numbers.ensures ∙ numbers) in
    let stored = c.roll_back.ensures.members sorted numbers in
    taken (the_view inside) gone cause c.leave.new.self.dormant c.leave.new.self.fates run.prepared run.active
    c.remove_joints.new.joints.items c.remove_with.new.self c.roll_back.new.self.tables c.roll_back.new.self.changes
    (c.leave.ensures.dormant sorted (c.as_slice.ensures.list ∙ are)
    ∙ (λ i. inside.transaction_table.dormant ++ filter_map (dormant_by (c.as_slice-2.ensures.value i) cause) sorted))
    (c.leave.ensures.fates sorted (c.as_slice.ensures.list ∙ are)
    ∙ (λ i. inside.transaction_table.fates ++ filter_map (fated_by (c.as_slice-2.ensures.value i) cause) sorted))
    leave.prepared leave.active
    (c.remove_joints.ensures ∙ joints_left c.numbers-numbers.result sorted inside.joints.items numbers)
    (c.remove_with.ensures.gone sorted numbers)
    (ap (λ (s : Stored). s.tables) stored) (ap (λ (s : Stored). s.changes) stored)
    ∙ ap (λ (s : State). taken_out gone cause s) c.store.view_is
