use Rattle.std.proofs.Common.{◌≡◌, ◌≤◌, ◌+◌, ◌*◌, false, true, inl, inr, length, get_or, sym, subst, ap, ◌∙◌, arith}
use Rattle.std.proofs.Common.{refl, rules}
use Rattle.ent_protocol_laws.specs.Idle.{IsHeldUp}
use Rattle.ent_protocol.specs.Lookup.{running_members}
use Rattle.ent_protocol.specs.State.{State}
use Rattle.ent_core.specs.Passed.{resolved_forms}
use Rattle.ent_sched.proofs.Moving.{one_moved}
use Rattle.ent_sched.proofs.Turning.{all_taken}
use Rattle.ent_sched.proofs.Watched.{unwatched, watched_on}
use Rattle.ent_sched.proofs.turn.take_turns.Goals.{then-branch, else-branch}
use Rattle.ent_sched.proofs.turn.take_turns.Goals as goal

pub returns-in_err-turn-clause-events : goal.returns-in_err-turn-clause-events
returns-in_err-turn-clause-events g c =
    let first = c.args.counted.now in
    let last = c.turn.new.counted in
    let i = c.loop-tx.tx-index in
    let same = ap length (c.as_slice-tx-items.ensures.list ∙ c.members-members.ensures) in
    let within = c.loop-tx-test.true in
    let few : 2 * i + 2 ≤ 2 * length (running_members first.core) = omega (arith, same, within) in
    c.events_add_up.ensures.widened resolved_forms (2 * i + 2) (2 * length (running_members first.core)) first last few
    (c.events_add_up.ensures.joined resolved_forms (2 * i) 2 first c.loop-tx.counted last c.loop-tx.invariant.events
    c.in_err-turn.ensures.events)

pub loop-tx-preserved : goal.loop-tx-preserved
loop-tx-preserved g c =
    let first = c.args.counted.now in
    let middle = c.loop-tx.counted in
    let last = c.turn.new.counted in
    let s = first.core in
    let i = c.loop-tx.tx-index in
    let now = c.loop-tx.invariant in
    let turned = c.in_ok-turn.ensures in
    let few : 2 * i + 2 ≤ 2 * (i + 1) = omega arith in
    let items = c.as_slice-tx-items.result.now in
    record {
      events = c.events_add_up.ensures.widened resolved_forms (2 * i + 2) (2 * (i + 1)) first last few
          (c.events_add_up.ensures.joined resolved_forms (2 * i) 2 first middle last now.events turned.events);
      watched = watched_on resolved_forms g.W.Watcher.hears first middle last c.args.watcher.now c.loop-tx.watcher
          c.turn.new.watcher now.watched turned.watched;
      none_lent = turned.none_lent;
      progress = λ moved.
          one_moved c.loop-tx.moved c.in_ok-turn.field-0 s middle.core last.core
          (now.progress, (λ still. (now.idle still).0)) (turned.progress, (λ still. (turned.idle still).0))
          (elim c.if-branch.branch [
            | then-branch w ↦ inr w.if-branch.true
            | else-branch w ↦ inl (sym w.moved-is ∙ moved)
          ]);
      idle = λ still.
          elim c.if-branch.branch [
            | then-branch w ↦ let moved : true ≡ false = sym w.moved-is ∙ still in absurd cc
            | else-branch w ↦
                let before = now.idle (sym w.moved-is ∙ still) in
                let own = turned.idle w.if-branch.false in (
                  own.0 ∙ before.0,
                  all_taken (IsHeldUp resolved_forms s) items i 0 c.loop-tx-test.true before.1
                      (subst (λ (x : State). IsHeldUp resolved_forms x (get_or items i 0)) before.0 own.1),
                )
          ];
    }

pub returns-in_err-turn-clause-watched : goal.returns-in_err-turn-clause-watched
returns-in_err-turn-clause-watched g c =
    watched_on resolved_forms g.W.Watcher.hears c.args.counted.now c.loop-tx.counted c.turn.new.counted
    c.args.watcher.now c.loop-tx.watcher c.turn.new.watcher c.loop-tx.invariant.watched c.in_err-turn.ensures.watched

pub loop-tx-init : goal.loop-tx-init
loop-tx-init g c =
    record {
      events = search rules;
      watched = unwatched resolved_forms g.W.Watcher.hears c.args.counted.now c.args.counted.now c.args.watcher.now
          c.args.watcher.now c.is_reached.ensures.bound refl refl;
      none_lent = search rules;
      progress = search rules;
      idle = search rules;
    }
