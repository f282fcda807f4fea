use Rattle.std.proofs.Common.{◌≤◌, ◌+◌, ◌*◌, inl, inr, length, subst, ◌∙◌, arith}
use Rattle.ent_protocol_laws.specs.Idle.{IsAnswered}
use Rattle.ent_protocol.specs.Event.{BreakCycle, NoCycle, Nothing, Pick}
use Rattle.ent_protocol.specs.Lookup.{running_members}
use Rattle.ent_protocol.specs.State.{State}
use Rattle.ent_core.specs.Passed.{resolved_forms}
use Rattle.ent_sched.specs.Onward.{events_of_round}
use Rattle.ent_sched.proofs.Moving.{moved_then, one_moved}
use Rattle.ent_sched.proofs.Watched.{watched_on}
use Rattle.ent_sched.proofs.one_round.round_watched.Goals as goal

pub returns-then-answered-clause-events : goal.returns-then-answered-clause-events
returns-then-answered-clause-events g c =
    let first = c.args.counted.now in
    let last = c.break_deadlock-broken.new.counted in
    let n = length (running_members first.core) in
    let same = c.members_come_by_number.ensures.counted first.core in
    let few : 2 * n + 2 + 1 ≤ events_of_round first.core = omega (arith, same) in
    let two = c.events_add_up.ensures.joined resolved_forms (2 * n) 2 first c.take_turns.new.counted
    c.answer_component.new.counted c.in_ok-turned.ensures.events c.in_ok-answered.ensures.events in
    c.events_add_up.ensures.widened resolved_forms (2 * n + 2 + 1) (events_of_round first.core) first last few
    (c.events_add_up.ensures.joined resolved_forms (2 * n + 2) 1 first c.answer_component.new.counted last two
    c.break_deadlock-broken.ensures.events)

pub returns-then-answered-clause-progress : goal.returns-then-answered-clause-progress
returns-then-answered-clause-progress g c = λ moved.
    let turned = c.in_ok-turned.ensures in
    let answered = c.in_ok-answered.ensures in
    let broken = c.break_deadlock-broken.ensures in
    let one = one_moved c.in_ok-turned.turned c.in_ok-answered.answered c.args.counted.now.core
    c.take_turns.new.counted.core c.answer_component.new.counted.core
    (turned.progress, (λ still. (turned.idle still).0)) (answered.progress, (λ still. (answered.idle still).0))
    (elim c.if-answered.either [ inl e ↦ inl e | inr e ↦ inr e.1 ]) in
    moved_then c.break_deadlock-broken.result c.args.counted.now.core c.answer_component.new.counted.core
    c.break_deadlock-broken.new.counted.core one (broken.progress, (λ still. (broken.idle still).0))

pub returns-else-answered-clause-events : goal.returns-else-answered-clause-events
returns-else-answered-clause-events g c =
    let first = c.args.counted.now in
    let last = c.break_deadlock-broken.new.counted in
    let n = length (running_members first.core) in
    let same = c.members_come_by_number.ensures.counted first.core in
    let few : 2 * n + 2 + 1 ≤ events_of_round first.core = omega (arith, same) in
    let two = c.events_add_up.ensures.joined resolved_forms (2 * n) 2 first c.take_turns.new.counted
    c.answer_component.new.counted c.in_ok-turned.ensures.events c.in_ok-answered.ensures.events in
    c.events_add_up.ensures.widened resolved_forms (2 * n + 2 + 1) (events_of_round first.core) first last few
    (c.events_add_up.ensures.joined resolved_forms (2 * n + 2) 1 first c.answer_component.new.counted last two
    c.break_deadlock-broken.ensures.events)

pub returns-else-answered-clause-idle : goal.returns-else-answered-clause-idle
returns-else-answered-clause-idle g c = λ still.
    let none = c.if-answered.false in
    let turned = c.in_ok-turned.ensures.idle none.0 in
    let answered = c.in_ok-answered.ensures.idle none.1 in
    let broken = c.break_deadlock-broken.ensures.idle still in (
      broken.0 ∙ answered.0 ∙ turned.0,
      record {
        none_lent = c.requires.none_lent;
        held_up = turned.1;
        nothing_picked = subst (λ (x : State). IsAnswered resolved_forms x Pick Nothing) turned.0 answered.1;
        no_cycle = subst (λ (x : State). IsAnswered resolved_forms x BreakCycle NoCycle) (answered.0 ∙ turned.0)
            broken.1;
      },
    )

pub returns-in_err-answered-clause-watched : goal.returns-in_err-answered-clause-watched
returns-in_err-answered-clause-watched g c =
    watched_on resolved_forms g.W.Watcher.hears c.args.counted.now c.take_turns.new.counted
    c.answer_component.new.counted c.args.watcher.now c.take_turns.new.watcher c.answer_component.new.watcher
    c.in_ok-turned.ensures.watched c.in_err-answered.ensures.watched

pub returns-then-answered-clause-watched : goal.returns-then-answered-clause-watched
returns-then-answered-clause-watched g c =
    let first = c.args.counted.now in
    let middle = c.answer_component.new.counted in
    let two = watched_on resolved_forms g.W.Watcher.hears first c.take_turns.new.counted middle c.args.watcher.now
    c.take_turns.new.watcher c.answer_component.new.watcher c.in_ok-turned.ensures.watched
    c.in_ok-answered.ensures.watched in
    watched_on resolved_forms g.W.Watcher.hears first middle c.break_deadlock-broken.new.counted c.args.watcher.now
    c.answer_component.new.watcher c.break_deadlock-broken.new.watcher two c.break_deadlock-broken.ensures.watched

pub returns-else-answered-clause-watched : goal.returns-else-answered-clause-watched
returns-else-answered-clause-watched g c =
    let first = c.args.counted.now in
    let middle = c.answer_component.new.counted in
    let two = watched_on resolved_forms g.W.Watcher.hears first c.take_turns.new.counted middle c.args.watcher.now
    c.take_turns.new.watcher c.answer_component.new.watcher c.in_ok-turned.ensures.watched
    c.in_ok-answered.ensures.watched in
    watched_on resolved_forms g.W.Watcher.hears first middle c.break_deadlock-broken.new.counted c.args.watcher.now
    c.answer_component.new.watcher c.break_deadlock-broken.new.watcher two c.break_deadlock-broken.ensures.watched
